-- How the faults of units are found by the answers that are filed.
use Rattle.std.proofs.Common.{◌≡◌, ◌≢◌, ◌⊎◌, inl, inr, ℕ, zero, suc, ◌+◌, ◌-◌, ◌<◌, ◌≤◌, ltb, List, [], ◌∷◌, length, Option, Some, None, Bool, true, false, if◌then◌else◌, refl, sym, ◌∙◌, ap, subst, true≢false, arith}
use Rattle.std.proofs.lemmas.Option.{slice_get_within}
use Rattle.std.specs.Prelude.{slice_get, unwrap_or}
use Rattle.std.specs.List.{list_any, IsDistinct, AllByRecursion}
use Rattle.std.proofs.lemmas.Bool.Decides.{Decides-ltb}
use Rattle.std.proofs.lemmas.Map.Keys.{IsDistinct-from_sorted}
use Rattle.gn_outside.specs.Lists.{Each, AllDiffer}
use Rattle.gn_paths.specs.declared.place.Place.{Place}
use Rattle.gn_faults.specs.declared.fault.Fault.{Fault}
use Rattle.gn_definitions.specs.Imported.{ImportState}
use Rattle.gn_runs.specs.Runs.{Question, import_of, is_unusable, wrong, Run}
use Rattle.gn_runs.specs.Laws.{IsAsked}
use Rattle.gn_runs.proofs.TreeLaws.{tree_spoiled_by_unusable}
use Rattle.gn_imports.specs.Rounds.{Project, final}
use Rattle.gn_imports.specs.Asked.{asked_by, all_asked, imports_asked, in_path_order}
use Rattle.gn_imports.specs.Causes.{Link, link, is_before, least_among, linked_on, cycle_fault, cause, led_by, led, LeadsToCall, IsOnCycle, IsLeastPlace}
use Rattle.gn_imports.specs.Projects.{IsOneOf}
use Rattle.gn_imports.proofs.Asked.{all_asked_given, all_asked_closed, all_asked_least}
use Rattle.gn_imports.proofs.Causes.{leads_step, cause_of_wrong, cause_of_cycle}
use Rattle.gn_imports.proofs.Links.{link_spoils}
use Rattle.gn_imports.proofs.PathOrder.{path_cmp, path_eq, path_eq-Decides, any_one, one_any, order_sorted, order_has, import_one, one_import}
use Rattle.gn_imports.proofs.Places.{IsAmong, least_found, least_first, least_each}
use Rattle.gn_imports.proofs.Walks.{Listed, led_step, led_add, short_walk}
use Rattle.gn_closure.specs.Closure.{In}
use Rattle.gn_closure.specs.Reach.{Unit_key, Setup}
use Rattle.gn_closure.proofs.Least.{first_held}
use Rattle.gn_graph.specs.Needs.{home}
use Rattle.gn_core.specs.Keys.{Layer, Key, Read, Import, Unit_of, Answer, import_is, unit_is, imported_in, key_of, layer_of, unit_in, units, Leaving, UnitLeft}
use Rattle.gn_core.specs.Worlds.{World, all_meanings}
use Rattle.gn_core.specs.Layered.{IsLayered}
use Rattle.gn_core.specs.Machine.{IsFiled, NeededBy, itself, through, import_limit, asked_in}
use Rattle.gn_core.proofs.Counting.{there_asked}
use Rattle.gn_core.proofs.Quiet.{IsKnown, Asks, Both, run_both, above}
use Rattle.gn_core.proofs.Right.{meaning_shown}
use Rattle.gn_book.specs.Logs.{Log, opening, state_of, key_at, IsFree}
use Rattle.gn_book.specs.Tasks.{is_task}
use Rattle.gn_projects.specs.Errors.{link_filed, fault_toolchain, default_told, shown_of_layer, cycle_under}
use Rattle.gn_projects.specs.Computed.{goes_round, cause_under, faults_at}
use Rattle.gn_projects.specs.Files.{Files}
use Rattle.gn_projects.specs.Worlds.{world_of}
use Rattle.gn_projects.proofs.Layered.{whole_builds_are_layered}
use Rattle.gn_projects.proofs.Links.{of_layer, is_project, link_true, answer_wrong, run_of, unit_true, wrong_stops, cycle_goes}
use Rattle.gn_builds.specs.Rest.{IsAtRest, HasLargeImport}
use Rattle.gn_builds.specs.Causes.{link_at, links_by, IsUnusable, shown_toolchain, UnitsHaveFaults, SpoilersAreUnusable, LinksAreUnusable, WrongIsCause, RoundIsCause}
use Rattle.gn_builds.proofs.Logs.{opens}
use Rattle.gn_builds.proofs.Needed.{listed_are_many}

-- Links of any kind

module _ (next : List ℕ → Option Link) where
  -- the links from an import are those of the imports to which they lead
  from_links : (n : ℕ) (path : List ℕ) (x : Link) → IsAmong x (links_by next n path) → (m : ℕ) × (y : List ℕ) × (led next m path ≡ Some y) × (next y ≡ Some x)
  from_links zero path x i = absurd i
  from_links (suc n) path x i = by (next path) refl (λ q. from_links n q x) i
    where
      by : (o : Option Link) → next path ≡ o → ((q : List ℕ) → IsAmong x (links_by next n q) → (m : ℕ) × (y : List ℕ) × (led next m q ≡ Some y) × (next y ≡ Some x)) → IsAmong x (linked_on o (links_by next n))
          → (m : ℕ) × (y : List ℕ) × (led next m path ≡ Some y) × (next y ≡ Some x)
      by None e ih i = absurd i
      by (Some l) e ih (inl f) = (zero, path, refl, e ∙ ap Some (sym f))
      by (Some l) e ih (inr i) = let far = ih l.path i in (suc far.0, far.1, led_step next far.0 path l (Some far.1) e far.2, far.3)

  links_from : (n m : ℕ) (path y : List ℕ) (x : Link) → m < n → led next m path ≡ Some y → next y ≡ Some x → IsAmong x (links_by next n path)
  links_from zero m path y x lt h e = omega (arith, lt)
  links_from (suc n) zero path y x lt h e =
      let same : path ≡ y = cc in
      subst (λ (o : Option Link). IsAmong x (linked_on o (links_by next n))) (sym (ap next same ∙ e)) (inl refl)
  links_from (suc n) (suc m) path y x lt h e = by (next path) (λ q k. links_from n m q y x (omega (arith, lt)) k e) h
    where
      by : (o : Option Link) → ((q : List ℕ) → led next m q ≡ Some y → IsAmong x (links_by next n q)) → led_by o (led next m) ≡ Some y → IsAmong x (linked_on o (links_by next n))
      by None ih h = cc
      by (Some l) ih h = inr (ih l.path h)

  -- one link more
  pub led_one : (n : ℕ) (path at : List ℕ) (x : Link) → led next n path ≡ Some at → next at ≡ Some x → led next (suc n) path ≡ Some x.path
  led_one zero path at x h e = let same : path ≡ at = cc in led_step next zero path x (Some x.path) (ap next same ∙ e) refl
  led_one (suc n) path at x h e = by (next path) refl h (λ q k. led_one n q at x k e)
    where
      by : (o : Option Link) → next path ≡ o → led_by o (led next n) ≡ Some at → ((q : List ℕ) → led next n q ≡ Some at → led next (suc n) q ≡ Some x.path) → led next (suc (suc n)) path ≡ Some x.path
      by None f k ih = cc
      by (Some l) f k ih = led_step next (suc n) path l (Some x.path) f (ih l.path k)

  -- links that stay among some paths
  module _ (xs : List (List ℕ)) (closed : (path : List ℕ) (x : Link) → IsOneOf path xs → next path ≡ Some x → IsOneOf x.path xs) where
    abbrev among : List ℕ → Option Link
    among path = if list_any (path_eq path) xs then next path else None

    among_same : (path : List ℕ) → IsOneOf path xs → among path ≡ next path
    among_same path i = ap (λ b. if b then next path else None) (one_any xs path i)

    among_listed : Listed among xs
    among_listed path x h = by (list_any (path_eq path) xs) refl h
      where
        by : (b : Bool) → list_any (path_eq path) xs ≡ b → (if b then next path else None) ≡ Some x → IsOneOf path xs
        by true e f = any_one xs path e
        by false e f = absurd (cc f)

    to_among : (n : ℕ) (path k : List ℕ) → IsOneOf path xs → led next n path ≡ Some k → led among n path ≡ Some k
    to_among zero path k i h = h
    to_among (suc n) path k i h = by (next path) refl (λ r. to_among n r k) h
      where
        by : (o : Option Link) → next path ≡ o → ((r : List ℕ) → IsOneOf r xs → led next n r ≡ Some k → led among n r ≡ Some k) → led_by o (led next n) ≡ Some k → led among (suc n) path ≡ Some k
        by None e ih f = absurd (cc f)
        by (Some x) e ih f = led_step among n path x (Some k) (among_same path i ∙ e) (ih x.path (closed path x i e) f)

    from_among : (n : ℕ) (path k : List ℕ) → led among n path ≡ Some k → led next n path ≡ Some k
    from_among zero path k h = h
    from_among (suc n) path k h = by (list_any (path_eq path) xs) (next path) (λ r. from_among n r k) h
      where
        by : (b : Bool) (o : Option Link) → ((r : List ℕ) → led among n r ≡ Some k → led next n r ≡ Some k) → led_by (if b then o else None) (led among n) ≡ Some k → led_by o (led next n) ≡ Some k
        by true None ih f = absurd (cc f)
        by true (Some x) ih f = ih x.path f
        by false o ih f = absurd (cc f)

    -- they lead to one of these, in no more steps than these are
    led_among : (n : ℕ) (path k : List ℕ) → IsOneOf path xs → led next n path ≡ Some k → IsOneOf k xs
    led_among zero path k i h = let same : path ≡ k = cc in subst (λ p. IsOneOf p xs) same i
    led_among (suc n) path k i h = by (next path) refl (λ r. led_among n r k) h
      where
        by : (o : Option Link) → next path ≡ o → ((r : List ℕ) → IsOneOf r xs → led next n r ≡ Some k → IsOneOf k xs) → led_by o (led next n) ≡ Some k → IsOneOf k xs
        by None e ih f = absurd (cc f)
        by (Some x) e ih f = ih x.path (closed path x i e) f

    led_shortly : (n : ℕ) (path k : List ℕ) → IsOneOf path xs → led next n path ≡ Some k → (m : ℕ) × (m ≤ length xs) × (led next m path ≡ Some k)
    led_shortly n path k i h =
        let near = short_walk among xs among_listed n path k (to_among n path k i h) in
        (near.0, near.1, from_among near.0 path k near.2)

    -- after as many they go round
    leads_back : (n : ℕ) → length xs ≤ n → (path q : List ℕ) (x : Link) → IsOneOf path xs → led next n path ≡ Some q → next q ≡ Some x → (m : ℕ) × (led next m x.path ≡ Some q)
    leads_back n few path q x i h e =
        let one : led next (suc zero) q ≡ Some x.path = led_step next zero q x (Some x.path) e refl in
        let on : led next (n + suc zero) path ≡ Some x.path = led_add next n (suc zero) path q h ∙ one in
        let near = led_shortly (n + suc zero) path x.path i on in
        let rest : ℕ = n - near.0 in
        let sum : near.0 + rest ≡ n = omega (arith, near.1, few) in
        (rest, sym (led_add next near.0 rest path x.path near.2) ∙ ap (λ m. led next m path) sum ∙ h)

-- the fault that is told, where links go round a cycle and where they don't
told_round : (toolchain : List ℕ) (b : Bool) (f : Fault) (place : Place) → b ≡ true → f ≡ cycle_fault (Some place) → (if b then record f { toolchain = toolchain } else f) ≡ cycle_under toolchain place
told_round toolchain b f place e h = ap (λ z. if z then record f { toolchain = toolchain } else f) e ∙ ap (λ (z : Fault). record z { toolchain = toolchain }) h

told_wrong : (toolchain : List ℕ) (b : Bool) (f fault : Fault) → b ≡ false → f ≡ fault → (if b then record f { toolchain = toolchain } else f) ≡ fault
told_wrong toolchain b f fault e h = ap (λ z. if z then record f { toolchain = toolchain } else f) e ∙ h

in_one : (ps : List (List ℕ)) (p : List ℕ) → In ps p → IsOneOf p ps
in_one [] p i = absurd i
in_one (q ∷ ps) p (inl e) = inl (sym e)
in_one (q ∷ ps) p (inr i) = inr (in_one ps p i)

some_link : (o : Option Answer) (x : Link) → link_filed o ≡ Some x → (v : Answer) × (o ≡ Some v)
some_link None x h = absurd (cc h)
some_link (Some v) x h = (v, refl)

-- where loading has come to rest
module _ (files : Files) (l : Log) (rest : IsAtRest files l) where
  abbrev w : World
  w = world_of files

  abbrev layered : IsLayered w
  layered = whole_builds_are_layered files

  abbrev IsKept : Type 0
  IsKept = Both w layered (λ path. false) opening (opens w) (state_of l)

  kept : IsKept
  kept = run_both w layered (λ path. false) opening (opens w) l.events (rest.driven.runs files refl) rest.over

  -- what is filed is what is meant
  filed_meant : (k : Key) (v : Answer) → (state_of l).filed k ≡ Some v → all_meanings w k ≡ Some v
  filed_meant k v e = above w layered opening (state_of l) kept.inv kept.bases kept.scope (λ m. refl) (λ u. refl) k v e

  same_filed : (k : Key) → IsFiled (state_of l).filed k → (state_of l).filed k ≡ all_meanings w k
  same_filed k f = f.1 ∙ sym (filed_meant k f.0 f.1)

  -- and so is what it asks
  known_filed : (k : Key) → IsKnown (state_of l) k → IsFiled (state_of l).filed k
  known_filed k (inl f) = f
  known_filed k (inr c) = absurd ((rest.driven.stacked.alone k c.0 c.1).1)

  asked_filed : (k on : Key) → IsFiled (state_of l).filed k → Asks (state_of l).filed k on → IsFiled (state_of l).filed on
  asked_filed k on f h = known_filed on (kept.scope.asked k on f h)

  -- the build configuration of the default toolchain is filed
  first_filed : IsFiled (state_of l).filed (Unit_of (Setup []))
  first_filed = by ((state_of l).filed (Unit_of (Setup []))) refl
    where
      by : (o : Option Answer) → (state_of l).filed (Unit_of (Setup [])) ≡ o → IsFiled (state_of l).filed (Unit_of (Setup []))
      by (Some v) e = (v, e)
      by None e =
          let n = (rest.numbers (Setup [])).1 (first_held home (units (state_of l).filed)) in
          let key : key_at l n.0 ≡ Unit_of (Setup []) = ap (λ (o : Option Key). unwrap_or o (Read [])) n.1 in
          absurd (rest.next.1 n.0 (record {
            number = slice_get_within l.keys n.0 (Unit_of (Setup [])) n.1;
            task = subst (λ k. is_task k ≡ true) (sym key) refl;
            free = subst (IsFree (state_of l)) (sym key) (record { unclaimed = rest.next.2 (Unit_of (Setup [])); unfiled = e });
          }))

  -- Units

  unit_meant : (unit : Unit_key) (run : Run (Leaving UnitLeft)) → (state_of l).filed (Unit_of unit) ≡ Some (unit_is run) → run_of w layered unit ≡ run
  unit_meant unit run e =
      let both : Some (unit_is (run_of w layered unit)) ≡ Some (unit_is run) = sym (unit_true w layered unit) ∙ filed_meant (Unit_of unit) (unit_is run) e in
      cc

  default_meant : default_told (units (all_meanings w) (Setup [])) ≡ default_told (units (state_of l).filed (Setup []))
  default_meant = ap (λ (o : Option Answer). default_told (unit_in o)) (sym (same_filed (Unit_of (Setup [])) first_filed))

  toolchain_meant : (layer : Layer) → fault_toolchain (units (all_meanings w)) layer ≡ shown_toolchain l layer
  toolchain_meant layer = ap (λ default. shown_of_layer default layer) default_meant

  -- Imports

  module _ (layer : Layer) where
    abbrev imported : Project
    imported = of_layer w layered layer

    -- an import that can't be used, by its answer
    unusable_filed : (path : List ℕ) → IsFiled (state_of l).filed (Import layer path) → (final imported).imports path ≡ Some is_unusable → IsUnusable layer l path
    unfolding final
    unusable_filed path f u = (
      f.0,
      f.1,
      ap (λ (v : Answer). imported_in (Some v)) (kept.inv.right (Import layer path) f.0 f.1)
          ∙ meaning_shown w layered.is (all_meanings w) (state_of l).filed kept.inv.right layer path
          ∙ u,
    )

    -- the link of an import is that of its answer
    same_link : (path : List ℕ) → IsFiled (state_of l).filed (Import layer path) → link_at layer l path ≡ link imported path
    same_link path f = ap link_filed (same_filed (Import layer path) f) ∙ link_true w layered layer path

    linked_filed : (path : List ℕ) (x : Link) → link_at layer l path ≡ Some x → IsFiled (state_of l).filed (Import layer path)
    linked_filed path x h = some_link ((state_of l).filed (Import layer path)) x h

    link_is : (path : List ℕ) (x : Link) → link_at layer l path ≡ Some x → link imported path ≡ Some x
    link_is path x h = sym (same_link path (linked_filed path x h)) ∙ h

    -- what the execution of an import asks is filed
    asks_filed : (path : List ℕ) (q : Question) → IsFiled (state_of l).filed (Import layer path) → IsAsked (asked_by imported path) q → IsAsked (asked_in ((state_of l).filed (Import layer path))) q
    asks_filed path q f i = subst (λ (o : Option Answer). IsAsked (asked_in o) q) (sym (same_filed (Import layer path) f)) (there_asked w layered layer path q i)

    next_filed : (path : List ℕ) (q : Question) → IsFiled (state_of l).filed (Import layer path) → IsAsked (asked_by imported path) q → IsFiled (state_of l).filed (key_of layer q)
    next_filed path q f i = asked_filed (Import layer path) (key_of layer q) f (q, refl, asks_filed path q f i)

    -- the import to which a link leads
    call_spoils : (path : List ℕ) (x : Link) → link_at layer l path ≡ Some x → ((final imported).imports x.path ≡ Some is_unusable) × IsAsked (asked_by imported path) (import_of x.path)
    call_spoils path x h =
        tree_spoiled_by_unusable (imported.execute path) ((is_project w layered layer).trees path) (final imported) x.path x.place (link_spoils imported (is_project w layered layer) path x (link_is path x h))

    leads_unusable : (path : List ℕ) (x : Link) → link_at layer l path ≡ Some x → IsUnusable layer l x.path
    leads_unusable path x h =
        let by = call_spoils path x h in
        unusable_filed x.path (next_filed path (import_of x.path) (linked_filed path x h) by.1) by.0

    -- Where links lead by the answers, they lead

    led_is : (n : ℕ) (path q : List ℕ) → led (link_at layer l) n path ≡ Some q → led (link imported) n path ≡ Some q
    led_is zero path q h = h
    led_is (suc n) path q h = by (link_at layer l path) refl (λ r k. led_is n r q k) h
      where
        by : (o : Option Link) → link_at layer l path ≡ o → ((r : List ℕ) → led (link_at layer l) n r ≡ Some q → led (link imported) n r ≡ Some q) → led_by o (led (link_at layer l) n) ≡ Some q → led (link imported) (suc n) path ≡ Some q
        by None e ih h = cc
        by (Some x) e ih h = led_step (link imported) n path x (Some q) (link_is path x e) (ih x.path h)

    -- and from an import that has an answer they lead just there
    led_filed : (n : ℕ) (path q : List ℕ) → IsFiled (state_of l).filed (Import layer path) → led (link imported) n path ≡ Some q → (led (link_at layer l) n path ≡ Some q) × IsFiled (state_of l).filed (Import layer q)
    led_filed zero path q f h = let same : path ≡ q = cc in (h, subst (λ (p : List ℕ). IsFiled (state_of l).filed (Import layer p)) same f)
    led_filed (suc n) path q f h = by (link imported path) refl (λ r g k. led_filed n r q g k) h
      where
        by : (o : Option Link) → link imported path ≡ o
            → ((r : List ℕ) → IsFiled (state_of l).filed (Import layer r) → led (link imported) n r ≡ Some q → (led (link_at layer l) n r ≡ Some q) × IsFiled (state_of l).filed (Import layer q))
            → led_by o (led (link imported) n) ≡ Some q → (led (link_at layer l) (suc n) path ≡ Some q) × IsFiled (state_of l).filed (Import layer q)
        by None e ih h = cc
        by (Some x) e ih h =
            let at : link_at layer l path ≡ Some x = same_link path f ∙ e in
            let there = leads_unusable path x at in
            let on = ih x.path (there.0, there.1) h in
            (led_step (link_at layer l) n path x (Some q) at on.0, on.1)

    -- a wrong import
    wrong_is : (toolchain : List ℕ) (n : ℕ) (path q : List ℕ) → led (link_at layer l) n path ≡ Some q → (run : Run (Leaving ImportState)) (fault : Fault) → (state_of l).filed (Import layer q) ≡ Some (import_is run)
        → run.end ≡ wrong fault → cause_under toolchain imported path ≡ fault
    wrong_is toolchain n path q h run fault filed e =
        let bad = answer_wrong w layered layer q run fault (filed_meant (Import layer q) (import_is run) filed) e in
        let is = is_project w layered layer in
        told_wrong toolchain (goes_round imported path) (cause imported path) fault (wrong_stops imported is path q fault (n, led_is n path q h) bad) (cause_of_wrong imported is path q fault (n, led_is n path q h) bad)

    -- What an import needs

    module _ (path : List ℕ) (filed : IsFiled (state_of l).filed (Import layer path)) where
      abbrev asked : List Question
      asked = all_asked imported (import_of path ∷ [])

      abbrev needed : List (List ℕ)
      needed = in_path_order (imports_asked asked)

      to_needed : (p : List ℕ) → IsAsked asked (import_of p) → IsOneOf p needed
      to_needed p i = (order_has (imports_asked asked) p).1 (import_one asked p i)

      from_needed : (p : List ℕ) → IsOneOf p needed → IsAsked asked (import_of p)
      from_needed p i = one_import asked p ((order_has (imports_asked asked) p).0 i)

      first_needed : IsOneOf path needed
      first_needed = to_needed path (all_asked_given imported (import_of path ∷ []) (import_of path) (inl refl))

      next_needed : (p : List ℕ) (x : Link) → IsOneOf p needed → link_at layer l p ≡ Some x → IsOneOf x.path needed
      next_needed p x i e =
          to_needed x.path (all_asked_closed imported (is_project w layered layer) (import_of path ∷ []) p (from_needed p i) (import_of x.path) (call_spoils p x e).1)

      abbrev IsNeededThere : Question → Type 0
      IsNeededThere q = NeededBy (state_of l).filed layer path (key_of layer q) × IsFiled (state_of l).filed (key_of layer q)

      needed_there : (q : Question) → IsAsked asked q → IsNeededThere q
      needed_there q i =
          all_asked_least imported IsNeededThere (λ other n r j. (through other r n.0 (asks_filed other r n.1 j), next_filed other r n.1 j)) (import_of path ∷ []) given q i
        where
          given : (r : Question) → IsAsked (import_of path ∷ []) r → IsNeededThere r
          given r (inl e) = subst IsNeededThere (sym e) (itself, filed)
          given r (inr j) = absurd j

      needed_differ : (ps : List (List ℕ)) → IsDistinct path_eq ps → AllDiffer ps
      unfolding IsDistinct
      needed_differ [] d = tt
      needed_differ (p ∷ ps) d = (apart p ps d.0, needed_differ ps d.1)
        where
          apart : (q : List ℕ) (qs : List (List ℕ)) → AllByRecursion (λ r. path_eq q r ≡ false) qs → Each (λ r. q ≢ r) qs
          apart q [] a = tt
          apart q (r ∷ qs) a = ((λ e. absurd (true≢false (sym ((path_eq-Decides q r).1 e) ∙ a.0))), apart q qs a.1)

      -- no more than the limit, where no import needs more
      few_needed : (HasLargeImport l → ⊥) → length needed ≤ import_limit
      few_needed small = by (ltb import_limit (length needed)) refl
        where
          at_most : (a b : ℕ) → ltb a b ≡ false → b ≤ a
          at_most a b h = grind (arith, Decides-ltb a b, h)

          by : (b : Bool) → ltb import_limit (length needed) ≡ b → length needed ≤ import_limit
          by false e = at_most import_limit (length needed) e
          by true e =
              absurd (small (
                layer,
                path,
                filed,
                listed_are_many (state_of l).filed layer path needed (needed_differ needed (IsDistinct-from_sorted path_cmp needed (order_sorted (imports_asked asked))))
                    (λ p i. (needed_there (import_of p) (from_needed p (in_one needed p i))).0)
                    ((Decides-ltb import_limit (length needed)).0 e),
              ))

      -- a cycle: as many links as imports are needed, and one, hold all to which links lead
      module _ (small : HasLargeImport l → ⊥) (q : List ℕ) (x : Link) (leads : led (link_at layer l) import_limit path ≡ Some q) (at : link_at layer l q ≡ Some x) where
        abbrev calls : List Link
        calls = links_by (link_at layer l) import_limit x.path

        there_needed : IsOneOf q needed
        there_needed = led_among (link_at layer l) needed next_needed import_limit path q first_needed leads

        -- the calls to which links lead
        all_calls : (c : Link) → LeadsToCall imported q c → IsAmong c (x ∷ calls)
        all_calls c (y, (n, h), e) =
            let there = led_filed n q y (linked_filed q x at) h in
            let near = led_shortly (link_at layer l) needed next_needed n q y there_needed there.0 in
            subst (λ (o : Option Link). IsAmong c (linked_on o (links_by (link_at layer l) import_limit))) at
            (links_from (link_at layer l) (suc import_limit) near.0 q y c (omega (arith, near.1, few_needed small)) near.2 (same_link y there.1 ∙ e))

        are_calls : (c : Link) → IsAmong c calls → LeadsToCall imported q c
        are_calls c i =
            let far = from_links (link_at layer l) import_limit x.path c i in
            (far.1, leads_step imported q far.1 x (link_is q x at) (far.0, led_is far.0 x.path far.1 far.2), link_is far.1 c far.3)

        least_found_there : (x.place ≡ least_among x.place calls) ⊎ ((c : Link) × IsAmong c calls × (c.place ≡ least_among x.place calls)) → (c : Link) × LeadsToCall imported q c × (c.place ≡ least_among x.place calls)
        least_found_there (inl e) = (x, (q, (zero, refl), link_is q x at), e)
        least_found_there (inr (c, i, e)) = (c, are_calls c i, e)

        none_before : (c : Link) → IsAmong c (x ∷ calls) → is_before c.place (least_among x.place calls) ≡ false
        none_before c (inl e) = ap (λ (y : Link). is_before y.place (least_among x.place calls)) e ∙ least_first x.place calls
        none_before c (inr i) = least_each x.place calls c i

        least_there : IsLeastPlace imported q (least_among x.place calls)
        least_there = record { found = least_found_there (least_found x.place calls); least = λ c k. none_before c (all_calls c k) }

        on_cycle : IsOnCycle imported q
        on_cycle =
            let back = leads_back (link_at layer l) needed next_needed import_limit (few_needed small) path q x first_needed leads at in
            (x, link_is q x at, (back.0, led_is back.0 x.path q back.1))

        round_is : (toolchain : List ℕ) → cause_under toolchain imported path ≡ cycle_under toolchain (least_among x.place calls)
        round_is toolchain =
            let is = is_project w layered layer in
            told_round toolchain (goes_round imported path) (cause imported path) (least_among x.place calls)
            (cycle_goes imported is path q (import_limit, led_is import_limit path q leads) on_cycle)
            (cause_of_cycle imported is path q (least_among x.place calls) (import_limit, led_is import_limit path q leads) on_cycle least_there)

pub units_have_faults : UnitsHaveFaults
units_have_faults files l unit run rest e =
    ap (λ toolchain. faults_at toolchain (imported files l rest (layer_of unit)) (run_of (world_of files) (whole_builds_are_layered files) unit).end) (toolchain_meant files l rest (layer_of unit))
    ∙ ap (λ (r : Run (Leaving UnitLeft)). faults_at (shown_toolchain l (layer_of unit)) (imported files l rest (layer_of unit)) r.end) (unit_meant files l rest unit run e)

pub spoilers_are_unusable : SpoilersAreUnusable
spoilers_are_unusable files l unit run path place rest e spoils =
    let is = unit_meant files l rest unit run e in
    let by = tree_spoiled_by_unusable ((world_of files).unit_run unit (all_meanings (world_of files))) ((whole_builds_are_layered files).is.trees (all_meanings (world_of files)) unit)
    (final (imported files l rest (layer_of unit))) path place (ap (λ (r : Run (Leaving UnitLeft)). r.end) is ∙ spoils) in
    let asked : IsAsked run.asked (import_of path) = subst (λ (r : Run (Leaving UnitLeft)). IsAsked r.asked (import_of path)) is by.1 in
    let asks : IsAsked (asked_in ((state_of l).filed (Unit_of unit))) (import_of path) = subst (λ (o : Option Answer). IsAsked (asked_in o) (import_of path)) (sym e) asked in
    unusable_filed files l rest (layer_of unit) path (asked_filed files l rest (Unit_of unit) (Import (layer_of unit) path) (unit_is run, e) (import_of path, refl, asks)) by.0

pub links_are_unusable : LinksAreUnusable
links_are_unusable files layer l path x rest h = leads_unusable files l rest layer path x h

pub wrong_is_cause : WrongIsCause
wrong_is_cause files layer l toolchain n path q rest h run fault filed e = wrong_is files l rest layer toolchain n path q h run fault filed e

pub round_is_cause : RoundIsCause
round_is_cause files layer l toolchain path q x rest small unusable h at = round_is files l rest layer path (unusable.0, unusable.1) small q x h at toolchain
