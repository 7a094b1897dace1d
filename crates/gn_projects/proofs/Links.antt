-- The links of answers are those of imports by rounds, and what they lead to is needed.
use Rattle.std.proofs.Common.{◌≡◌, ℕ, zero, suc, ◌+◌, ◌-◌, length, List, Option, Some, None, refl, sym, ◌∙◌, ap, subst, true, false, is_some, arith}
use mathlib.Core.Path.{fun_ext}
use Rattle.gn_paths.specs.declared.place.Place.{Place}
use Rattle.gn_definitions.specs.Imported.{ImportState}
use Rattle.gn_faults.specs.declared.fault.Fault.{Fault}
use Rattle.gn_runs.specs.Runs.{Question, content_of, import_of, is_unusable, End, ended, wrong, spoiled, needs, Run}
use Rattle.gn_runs.specs.Laws.{IsAsked}
use Rattle.gn_runs.proofs.TreeLaws.{tree_spoiled_by_unusable, tree_unusable_spoils}
use Rattle.gn_imports.specs.Rounds.{Project, imported_of, values, final}
use Rattle.gn_imports.specs.Projects.{IsProject}
use Rattle.gn_imports.specs.Causes.{Link, outcome, link_of, link, led_by, led, LeadsTo, IsOnCycle}
use Rattle.gn_imports.proofs.Final.{needs_no_content, fixed}
use Rattle.gn_imports.proofs.Links.{outcome_wrong, spoiled_link, link_spoils}
use Rattle.gn_imports.proofs.Walks.{led_add}
use Rattle.gn_imports.proofs.Causes.{leads_shortly, leads_link, cycle_far}
use Rattle.gn_closure.specs.Reach.{Unit_key, Is_reached, Holds}
use Rattle.gn_core.specs.Keys.{Layer, Key, Import, Unit_of, Answer, import_is, unit_is, layer_of, units, Leaving, UnitLeft, seen_end}
use Rattle.gn_core.specs.Worlds.{World, project, last_run, import_as, all_meanings}
use Rattle.gn_core.specs.Layered.{IsLayered}
use Rattle.gn_core.specs.Machine.{asked_in, IsNeeded, by_unit, by_import}
use Rattle.gn_core.proofs.Lowered.{true_fixed}
use Rattle.gn_core.proofs.Counting.{asked_there, there_asked, key_import}
use Rattle.gn_projects.specs.Errors.{link_in, link_at}
use Rattle.gn_projects.specs.Computed.{goes_round}

-- The end of an import in its answer

link_as : (end : End (Leaving ImportState)) (asked : List Question) → ((path : List ℕ) (p : Place) → end ≡ needs (content_of path) p → ⊥) → link_in (import_as end asked) ≡ link_of (seen_end end)
link_as (ended x) asked h = refl
link_as (wrong f) asked h = refl
link_as (spoiled path place) asked h = refl
link_as (needs (content_of path) place) asked h = absurd (h path place refl)
link_as (needs (import_of path) place) asked h = refl

seen_of : (run other : Run (Leaving ImportState)) (fault : Fault) → import_is other ≡ import_is run → run.end ≡ wrong fault → seen_end other.end ≡ wrong fault
seen_of run other fault e h =
    let same : other ≡ run = cc in
    ap (λ (r : Run (Leaving ImportState)). seen_end r.end) same ∙ ap seen_end h

-- an answer that is wrong is of a wrong import
pub as_wrong : (end : End (Leaving ImportState)) (asked : List Question) (run : Run (Leaving ImportState)) (fault : Fault) → import_as end asked ≡ import_is run → run.end ≡ wrong fault → seen_end end ≡ wrong fault
as_wrong (ended x) asked run fault e h = seen_of run (record { end = ended x; asked = asked }) fault e h
as_wrong (wrong f) asked run fault e h = seen_of run (record { end = wrong f; asked = asked }) fault e h
as_wrong (spoiled path place) asked run fault e h = seen_of run (record { end = spoiled path place; asked = asked }) fault e h
as_wrong (needs (content_of path) place) asked run fault e h = cc
as_wrong (needs (import_of path) place) asked run fault e h = cc

-- and a wrong import has such an answer
pub wrong_as : (end : End (Leaving ImportState)) (asked : List Question) (fault : Fault) → seen_end end ≡ wrong fault → (run : Run (Leaving ImportState)) × (import_as end asked ≡ import_is run) × (run.end ≡ wrong fault)
wrong_as (ended x) asked fault h = absurd (cc)
wrong_as (wrong f) asked fault h = let same : f ≡ fault = cc in (record { end = wrong f; asked = asked }, refl, ap wrong same)
wrong_as (spoiled path place) asked fault h = absurd (cc)
wrong_as (needs q place) asked fault h = absurd (cc)

-- Links that go round

no_links : (x : Option Link) (next : List ℕ → Option (List ℕ)) → x ≡ None → led_by x next ≡ None
no_links x next h = ap (λ (z : Option Link). led_by z next) h

module _ (p : Project) (is : IsProject p) where
  -- from where a wrong import is found they don't
  pub wrong_stops : (path q : List ℕ) (fault : Fault) → LeadsTo p path q → (outcome p q).end ≡ wrong fault → goes_round p path ≡ false
  wrong_stops path q fault h w =
      let near = leads_shortly p is path q h in
      let rest : ℕ = length p.paths - near.0 in
      let sum : near.0 + suc rest ≡ suc (length p.paths) = omega (arith, near.1) in
      let stop : led (link p) (suc rest) q ≡ None = no_links (link p q) (led (link p) rest) (ap link_of w) in
      let end : led (link p) (suc (length p.paths)) path ≡ None = sym (ap (λ n. led (link p) n path) sum) ∙ led_add (link p) near.0 (suc rest) path q near.2 ∙ stop in
      ap is_some end

  -- from where a cycle is found they do
  pub cycle_goes : (path q : List ℕ) → LeadsTo p path q → IsOnCycle p q → goes_round p path ≡ true
  cycle_goes path q h c =
      let near = leads_shortly p is path q h in
      let rest : ℕ = length p.paths - near.0 in
      let sum : near.0 + suc rest ≡ suc (length p.paths) = omega (arith, near.1) in
      let far = cycle_far p (suc rest) q c in
      let end : led (link p) (suc (length p.paths)) path ≡ Some far.0 = sym (ap (λ n. led (link p) n path) sum) ∙ led_add (link p) near.0 (suc rest) path q near.2 ∙ far.1 in
      ap is_some end

  -- neither can be used
  pub wrong_is_unusable : (path : List ℕ) (fault : Fault) → (outcome p path).end ≡ wrong fault → (final p).imports path ≡ Some is_unusable
  wrong_is_unusable path fault e = sym (fixed p is path) ∙ ap imported_of (outcome_wrong p is path fault e)

  pub round_is_unusable : (path : List ℕ) → IsOnCycle p path → (final p).imports path ≡ Some is_unusable
  round_is_unusable path c = sym (fixed p is path) ∙ ap imported_of (link_spoils p is path c.0 c.1)

-- Over the meanings of all keys

module _ (w : World) (l : IsLayered w) where
  abbrev pub of_layer : Layer → Project
  of_layer m = project w (all_meanings w) m

  pub is_project : (m : Layer) → IsProject (of_layer m)
  is_project m = l.is.projects (all_meanings w) m

  pub link_true : (m : Layer) (path : List ℕ) → link_at (all_meanings w) m path ≡ link (of_layer m) path
  unfolding last_run outcome
  link_true m path =
      ap link_in (true_fixed w l (Import m path))
      ∙ link_as (last_run w (all_meanings w) m path).end (last_run w (all_meanings w) m path).asked
      (λ q p h. needs_no_content (of_layer m) (w.import_run m (all_meanings w) path) (l.is.imports (all_meanings w) m path) (values (of_layer m)) q p h)

  pub links_true : (m : Layer) → link_at (all_meanings w) m ≡ link (of_layer m)
  links_true m = fun_ext (λ path. link_true m path)

  -- wrong imports
  pub answer_wrong : (m : Layer) (path : List ℕ) (run : Run (Leaving ImportState)) (fault : Fault) → all_meanings w (Import m path) ≡ Some (import_is run) → run.end ≡ wrong fault → (outcome (of_layer m) path).end ≡ wrong fault
  unfolding last_run outcome
  answer_wrong m path run fault e h =
      as_wrong (last_run w (all_meanings w) m path).end (last_run w (all_meanings w) m path).asked run fault
      (let both : Some (import_as (last_run w (all_meanings w) m path).end (last_run w (all_meanings w) m path).asked) ≡ Some (import_is run) = sym (ap Some (true_fixed w l (Import m path))) ∙ e in cc) h

  pub wrong_answer : (m : Layer) (path : List ℕ) (fault : Fault) → (outcome (of_layer m) path).end ≡ wrong fault → (run : Run (Leaving ImportState)) × (all_meanings w (Import m path) ≡ Some (import_is run)) × (run.end ≡ wrong fault)
  unfolding last_run outcome
  wrong_answer m path fault h =
      let x = wrong_as (last_run w (all_meanings w) m path).end (last_run w (all_meanings w) m path).asked fault h in
      (x.0, ap Some (true_fixed w l (Import m path) ∙ x.1), x.2)

  -- units
  abbrev pub run_of : Unit_key → Run (Leaving UnitLeft)
  run_of k = w.unit_run k (all_meanings w) (final (of_layer (layer_of k)))

  pub unit_true : (k : Unit_key) → all_meanings w (Unit_of k) ≡ Some (unit_is (run_of k))
  unit_true k = ap Some (true_fixed w l (Unit_of k))

  -- what spoils a reached unit is needed
  pub spoiler_needed : (k : Unit_key) (path : List ℕ) (p : Place) → Holds w.home (units (all_meanings w)) (Is_reached k) → (run_of k).end ≡ spoiled path p
      → ((final (of_layer (layer_of k))).imports path ≡ Some is_unusable) × IsNeeded w (all_meanings w) (Import (layer_of k) path)
  spoiler_needed k path p h e =
      let x = tree_spoiled_by_unusable (w.unit_run k (all_meanings w)) (l.is.trees (all_meanings w) k) (final (of_layer (layer_of k))) path p e in
      (x.0, by_unit k (import_of path) h (subst (λ (z : Option Answer). IsAsked (asked_in z) (import_of path)) (sym (unit_true k)) x.1))

  -- and so is what links lead to
  link_needed : (m : Layer) (path : List ℕ) (c : Link) → link (of_layer m) path ≡ Some c → IsNeeded w (all_meanings w) (Import m path) → IsNeeded w (all_meanings w) (Import m c.path)
  link_needed m path c e n =
      let x = tree_spoiled_by_unusable ((of_layer m).execute path) ((is_project m).trees path) (final (of_layer m)) c.path c.place (link_spoils (of_layer m) (is_project m) path c e) in
      by_import m path (import_of c.path) n (there_asked w l m path (import_of c.path) x.1)

  steps_needed : (m : Layer) (n : ℕ) (path q : List ℕ) → led (link (of_layer m)) n path ≡ Some q → IsNeeded w (all_meanings w) (Import m path) → IsNeeded w (all_meanings w) (Import m q)
  steps_needed m zero path q h n = let same : path ≡ q = cc in subst (λ z. IsNeeded w (all_meanings w) (Import m z)) same n
  steps_needed m (suc k) path q h n = by (link (of_layer m) path) refl (λ r. steps_needed m k r q) h
    where
      by : (x : Option Link) → link (of_layer m) path ≡ x → ((r : List ℕ) → led (link (of_layer m)) k r ≡ Some q → IsNeeded w (all_meanings w) (Import m r) → IsNeeded w (all_meanings w) (Import m q))
          → led_by x (led (link (of_layer m)) k) ≡ Some q → IsNeeded w (all_meanings w) (Import m q)
      by None e ih f = absurd (cc)
      by (Some c) e ih f = ih c.path f (link_needed m path c e n)

  pub leads_needed : (m : Layer) (path q : List ℕ) → LeadsTo (of_layer m) path q → IsNeeded w (all_meanings w) (Import m path) → IsNeeded w (all_meanings w) (Import m q)
  leads_needed m path q h n = steps_needed m h.0 path q h.1 n

  -- an import that can't be used and that is needed spoils a reached unit, directly or through others
  pub record Spoils (m : Layer) (path : List ℕ) : Type 0 where
    pub unit : Unit_key
    pub layer : m ≡ layer_of unit
    pub reached : Holds w.home (units (all_meanings w)) (Is_reached unit)
    pub first : List ℕ
    pub place : Place
    pub ends : (run_of unit).end ≡ spoiled first place
    pub leads : LeadsTo (of_layer m) first path

  spoils_unit : (u : Unit_key) (q : Question) (m : Layer) (path : List ℕ) → Holds w.home (units (all_meanings w)) (Is_reached u) → IsAsked (asked_in (all_meanings w (Unit_of u))) q
      → q ≡ import_of path → m ≡ layer_of u → (final (of_layer m)).imports path ≡ Some is_unusable → Spoils m path
  spoils_unit u q m path h i e f unusable =
      let asked : IsAsked (run_of u).asked (import_of path) = subst (λ (z : Option Answer). IsAsked (asked_in z) (import_of path)) (unit_true u) (subst (IsAsked (asked_in (all_meanings w (Unit_of u)))) e i) in
      let x = tree_unusable_spoils (w.unit_run u (all_meanings w)) (l.is.trees (all_meanings w) u) (final (of_layer (layer_of u))) path asked (subst (λ z. (final (of_layer z)).imports path ≡ Some is_unusable) f unusable) in
      record { unit = u; layer = f; reached = h; first = path; place = x.0; ends = x.1; leads = (zero, refl) }

  spoils_on : (m : Layer) (other path : List ℕ) (c : Link) → c.path ≡ path → link (of_layer m) other ≡ Some c → Spoils m other → Spoils m path
  spoils_on m other path c same e s = record {
    unit = s.unit;
    layer = s.layer;
    reached = s.reached;
    first = s.first;
    place = s.place;
    ends = s.ends;
    leads = subst (LeadsTo (of_layer m) s.first) same (leads_link (of_layer m) s.first other c s.leads e);
  }

  pub unusable_spoils : (k : Key) → IsNeeded w (all_meanings w) k → (m : Layer) (path : List ℕ) → Import m path ≡ k → (final (of_layer m)).imports path ≡ Some is_unusable → Spoils m path
  unusable_spoils k (by_unit u q h i) m path e unusable =
      let x = key_import m (layer_of u) path q e in
      spoils_unit u q m path h i x.0 x.1 unusable
  unusable_spoils k (by_import n other q h i) m path e unusable =
      let x = key_import m n path q e in
      let asked = subst (IsAsked ((of_layer m).execute other (final (of_layer m))).asked) x.0 (asked_there w l m other q (subst (λ z. IsAsked (asked_in (all_meanings w (Import z other))) q) (sym x.1) i)) in
      let y = tree_unusable_spoils ((of_layer m).execute other) ((is_project m).trees other) (final (of_layer m)) path asked unusable in
      let bad : (final (of_layer m)).imports other ≡ Some is_unusable = sym (fixed (of_layer m) (is_project m) other) ∙ ap imported_of y.1 in
      spoils_on m other path (record { path = path; place = y.0 }) refl (spoiled_link (of_layer m) (is_project m) other path y.0 y.1)
      (unusable_spoils (Import n other) h m other (ap (λ z. Import z other) x.1) bad)
