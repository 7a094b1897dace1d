-- The laws of loading in any order hold of whole builds.
use Rattle.std.proofs.Common.{◌≡◌, ℕ, zero, ◌≤◌, ◌<◌, List, [], Option, Some, None, Bool, true, false, if◌then◌else◌, refl, sym, ◌∙◌, ap, subst, ◌⊎◌, inl, inr, arith}
use Rattle.std.specs.Str.{bytes_eq}
use Rattle.std.proofs.lemmas.Slice.Eq.{bytes_eq-Decides}
use Rattle.std.proofs.lemmas.List.{append-nil}
use Rattle.gn_definitions.specs.Imported.{ImportState}
use Rattle.gn_runs.specs.Runs.{Question, Answers, End, ended, wrong, spoiled, needs, Run, IsTree, after, followed, leaves}
use Rattle.gn_runs.proofs.Trees.{tree_then, tree_leaves, tree_same}
use Rattle.gn_closure.specs.Reach.{Unit_key, Setup, Load, Done}
use Rattle.gn_graph.specs.Needs.{home}
use Rattle.gn_meaning.specs.Steps.{Left}
use Rattle.gn_executions.specs.Base.{BaseState, default_context, finished_base}
use Rattle.gn_executions.specs.Found.{found_load_execution}
use Rattle.gn_executions.specs.Setups.{setup_execution}
use Rattle.gn_executions.proofs.ExecutionTrees.{setup_execution_tree, found_load_execution_tree}
use Rattle.gn_core.specs.Keys.{Layer, early, usual, Key, Unit_of, Answer, found, import_is, no_value, unit_is, record_is, unit_in, Filed, Leaving, UnitLeft, layer_of, done_in, units}
use Rattle.gn_core.specs.Worlds.{true_meaning}
use Rattle.gn_core.specs.Layered.{IsPart, HasDefinition, HasLayer}
use Rattle.gn_projects.specs.Files.{Files, beneath_of, import_of_layer}
use Rattle.gn_projects.proofs.Files.{import_tree, seen_tree, seen_absent, listed}
use Rattle.gn_projects.specs.Bases.{left_of, left_in, left_at, default_by, default_in, context_under, other_base, early_base, behind, usual_behind, usual_base, base_of_layer}
use Rattle.gn_projects.specs.Worlds.{unit_end, unit_run, configuration_leaves, file_leaves, unit_over, setup_run, default_of, stage_of_layer, stage_of, world_of}
use Rattle.gn_projects.specs.Laws.{WholeBuildsAreLayered}

-- The evaluations of units are trees of questions

abbrev as_run : {A : Type 0} → End A → List Question → Run A
as_run end asked = record { end = end; asked = asked }

abbrev leaving : {A : Type 0} → (Left A → UnitLeft) → Left A → Leaving UnitLeft
leaving f left = record { value = f left; effects = left.effects }

unit_followed : {A : Type 0} (f : Left A → UnitLeft) (run : Run (Left A)) → unit_run f run ≡ followed run (λ (left : Left A). leaves (leaving f left))
unit_followed {A} f run = by run.end run.asked
  where
    by : (end : End (Left A)) (asked : List Question) → as_run (unit_end f end) asked ≡ after end asked (λ (left : Left A). leaves (leaving f left))
    by (ended left) asked = ap (as_run (ended (leaving f left))) (sym (append-nil asked))
    by (wrong fault) asked = refl
    by (spoiled path place) asked = refl
    by (needs question place) asked = refl

unit_run_tree : {A : Type 0} (f : Left A → UnitLeft) (m : Answers → Run (Left A)) → IsTree m → IsTree (λ (a : Answers). unit_run f (m a))
unit_run_tree {A} f m t =
    tree_same (λ (a : Answers). unit_run f (m a)) (λ (a : Answers). followed (m a) (λ (left : Left A). leaves (leaving f left))) (λ a. unit_followed f (m a))
    (tree_then m (λ (a : Answers) (left : Left A). leaves (leaving f left)) t (λ left. tree_leaves (leaving f left)))

pub unit_tree : (base : BaseState) (k : Unit_key) → IsTree (λ answers. unit_over base k answers)
unit_tree base (Setup toolchain) = unit_run_tree configuration_leaves (setup_execution base toolchain) (setup_execution_tree base toolchain)
unit_tree base (Load dir toolchain) = unit_run_tree file_leaves (found_load_execution base dir toolchain) (found_load_execution_tree base dir toolchain)

-- The meaning of the build configuration of the default toolchain

pub setup_true : (files : Files) → true_meaning (world_of files) (Unit_of (Setup [])) ≡ unit_is (setup_run files)
unfolding setup_run
setup_true files = refl

same_text : (s t : List ℕ) → s ≡ t → bytes_eq s t ≡ true
same_text s t e = (bytes_eq-Decides s t).1 e

if_true : {A : Type 0} (b : Bool) (x y : A) → b ≡ true → (if b then x else y) ≡ x
if_true b x y e = rw e refl

-- Bases that see the same of earlier stages

-- the base has the meanings of all keys of stages before this one
abbrev HasBefore : Files → ℕ → Filed → Type 0
HasBefore files n b = (q : Key) → stage_of (default_of files) q < n → b q ≡ Some (true_meaning (world_of files) q)

setup_seen : (files : Files) (n : ℕ) (b : Filed) → zero < n → HasBefore files n b → left_at b (Setup []) ≡ left_of (setup_run files).end
setup_seen files n b h has = ap left_in (has (Unit_of (Setup [])) h ∙ ap Some (setup_true files))

load_stage : (files : Files) (dir toolchain : List ℕ) → toolchain ≡ default_of files → stage_of (default_of files) (Unit_of (Load dir toolchain)) ≡ 1
load_stage files dir toolchain e = if_true (bytes_eq toolchain (default_of files)) 1 3 (same_text toolchain (default_of files) e)

early_low : (toolchain : List ℕ) → (if bytes_eq toolchain [] then 0 else 2) ≤ 2
early_low toolchain = by (bytes_eq toolchain [])
  where
    by : (b : Bool) → (if b then 0 else 2) ≤ 2
    by true = omega arith
    by false = omega arith

module _ (files : Files) (n : ℕ) (b c : Filed) (left : HasBefore files n b) (right : HasBefore files n c) where
  unit_same : (k : Unit_key) → stage_of (default_of files) (Unit_of k) < n → left_at b k ≡ left_at c k
  unit_same k h = ap left_in (left (Unit_of k) h ∙ sym (right (Unit_of k) h))

  other_by : (toolchain : List ℕ) → 1 < n → (x : Option (Leaving UnitLeft)) → x ≡ left_of (setup_run files).end → other_base files.start b toolchain x ≡ other_base files.start c toolchain x
  other_by toolchain h None e = refl
  other_by toolchain h (Some s) e =
      let low = load_stage files (home toolchain) (default_by s) (ap default_in e) in
      ap (λ (file : Option (Leaving UnitLeft)). record files.start { context = context_under files.start.context (default_by s) toolchain file })
      (unit_same (Load (home toolchain) (default_by s)) (subst (λ z. z < n) (sym low) h))

  other_same : (toolchain : List ℕ) → 1 < n → other_base files.start b toolchain (left_at b (Setup [])) ≡ other_base files.start c toolchain (left_at c (Setup []))
  other_same toolchain h =
      let known = setup_seen files n b (omega (arith, h)) left in
      let other = setup_seen files n c (omega (arith, h)) right in
      other_by toolchain h (left_at b (Setup [])) known ∙ ap (other_base files.start c toolchain) (known ∙ sym other)

  early_by : (toolchain : List ℕ) (t : Bool) → (if t then 0 else 2) ≤ n
      → (if t then files.start else other_base files.start b toolchain (left_at b (Setup []))) ≡ (if t then files.start else other_base files.start c toolchain (left_at c (Setup [])))
  early_by toolchain true h = refl
  early_by toolchain false h = other_same toolchain (omega (arith, h))

  early_same : (toolchain : List ℕ) → (if bytes_eq toolchain [] then 0 else 2) ≤ n → early_base files.start b toolchain ≡ early_base files.start c toolchain
  early_same toolchain h = early_by toolchain (bytes_eq toolchain []) h

  behind_same : (toolchain : List ℕ) → 3 ≤ n → behind (early_base files.start b toolchain) (left_at b (Setup toolchain)) ≡ behind (early_base files.start c toolchain) (left_at c (Setup toolchain))
  behind_same toolchain h =
      let low = early_low toolchain in
      ap (λ (base : BaseState). behind base (left_at b (Setup toolchain))) (early_same toolchain (omega (arith, low, h)))
      ∙ ap (behind (early_base files.start c toolchain)) (unit_same (Setup toolchain) (omega (arith, low, h)))

  usual_cases : (toolchain : List ℕ) (s : Leaving UnitLeft) (t : Bool) → (if t then 1 else 3) ≤ n
      → (if t then finished_base files.start (default_context (default_by s) files.start.context) (beneath_of s.value.beneath) else behind (early_base files.start b toolchain) (left_at b (Setup toolchain)))
      ≡ (if t then finished_base files.start (default_context (default_by s) files.start.context) (beneath_of s.value.beneath) else behind (early_base files.start c toolchain) (left_at c (Setup toolchain)))
  usual_cases toolchain s true h = refl
  usual_cases toolchain s false h = behind_same toolchain h

  usual_by : (toolchain : List ℕ) → stage_of_layer (default_of files) (usual toolchain) ≤ n → (x : Option (Leaving UnitLeft)) → x ≡ left_of (setup_run files).end
      → usual_behind files.start b toolchain x ≡ usual_behind files.start c toolchain x
  usual_by toolchain h None e = refl
  usual_by toolchain h (Some s) e =
      usual_cases toolchain s (bytes_eq toolchain (default_by s)) (subst (λ (d : List ℕ). (if bytes_eq toolchain d then 1 else 3) ≤ n) (sym (ap default_in e)) h)

  usual_low : (toolchain : List ℕ) → stage_of_layer (default_of files) (usual toolchain) ≤ n → zero < n
  usual_low toolchain h = by (bytes_eq toolchain (default_of files)) h
    where
      by : (t : Bool) → (if t then 1 else 3) ≤ n → zero < n
      by true h = omega (arith, h)
      by false h = omega (arith, h)

  usual_same : (toolchain : List ℕ) → stage_of_layer (default_of files) (usual toolchain) ≤ n → usual_base files.start b toolchain ≡ usual_base files.start c toolchain
  usual_same toolchain h =
      let known = setup_seen files n b (usual_low toolchain h) left in
      let other = setup_seen files n c (usual_low toolchain h) right in
      usual_by toolchain h (left_at b (Setup [])) known ∙ ap (usual_behind files.start c toolchain) (known ∙ sym other)

  base_sees : (l : Layer) → stage_of_layer (default_of files) l ≤ n → base_of_layer files.start b l ≡ base_of_layer files.start c l
  base_sees (early toolchain) h = early_same toolchain h
  base_sees (usual toolchain) h = usual_same toolchain h

-- Bases that have all that is seen of them, and more

-- a unit that is done has left something, and over more it has left the same
record HasLeft (b c : Filed) (k : Unit_key) (d : Done) : Type 0 where
  left : Leaving UnitLeft
  here : left_at b k ≡ Some left
  there : left_at c k ≡ Some left
  done : left.value.needs ≡ d

done_left : (end : End (Leaving UnitLeft)) (d : Done) → done_in end ≡ Some d → (left : Leaving UnitLeft) × (left_of end ≡ Some left) × (left.value.needs ≡ d)
done_left (ended left) d h = (left, refl, cc)
done_left (wrong fault) d h = cc
done_left (spoiled path place) d h = cc
done_left (needs question place) d h = cc

unit_left : (v : Answer) (d : Done) → unit_in (Some v) ≡ Some (Some d) → (left : Leaving UnitLeft) × (left_in (Some v) ≡ Some left) × (left.value.needs ≡ d)
unit_left (found content) d h = cc
unit_left (import_is run) d h = cc
unit_left (no_value path place asked) d h = cc
unit_left (unit_is run) d h = done_left run.end d (cc)
unit_left (record_is bytes) d h = cc

module _ (files : Files) (b c : Filed) (le : IsPart b c) where
  has_left : (k : Unit_key) (d : Done) → units b k ≡ Some (Some d) → HasLeft b c k d
  has_left k d h = by (b (Unit_of k)) refl h
    where
      by : (x : Option Answer) → b (Unit_of k) ≡ x → unit_in x ≡ Some (Some d) → HasLeft b c k d
      by None e h = absurd (cc)
      by (Some v) e h =
          let m = unit_left v d h in
          record { left = m.0; here = ap left_in e ∙ m.1; there = ap left_in (le (Unit_of k) v e) ∙ m.1; done = m.2 }

  left_stays : (k : Unit_key) (d : Done) → units b k ≡ Some (Some d) → left_at c k ≡ left_at b k
  left_stays k d h = let m = has_left k d h in m.there ∙ sym m.here

  other_stays : (toolchain : List ℕ) (d u : Done) → units b (Setup []) ≡ Some (Some d) → units b (Load (home toolchain) d.default) ≡ Some (Some u)
      → other_base files.start c toolchain (left_at c (Setup [])) ≡ other_base files.start b toolchain (left_at b (Setup []))
  other_stays toolchain d u x y =
      let m = has_left (Setup []) d x in
      let file : left_at c (Load (home toolchain) (default_by m.left)) ≡ left_at b (Load (home toolchain) (default_by m.left)) =
      left_stays (Load (home toolchain) (default_by m.left)) u (subst (λ (z : Done). units b (Load (home toolchain) z.default) ≡ Some (Some u)) (sym m.done) y) in
      ap (other_base files.start c toolchain) m.there
      ∙ ap (λ (f : Option (Leaving UnitLeft)). record files.start { context = context_under files.start.context (default_by m.left) toolchain f }) file
      ∙ ap (other_base files.start b toolchain) (sym m.here)

  early_cases : (toolchain : List ℕ) (t : Bool) → bytes_eq toolchain [] ≡ t → HasDefinition (world_of files) b toolchain
      → (if t then files.start else other_base files.start c toolchain (left_at c (Setup []))) ≡ (if t then files.start else other_base files.start b toolchain (left_at b (Setup [])))
  early_cases toolchain true e h = refl
  early_cases toolchain false e (inl h) = absurd (let t : bytes_eq toolchain [] ≡ true = same_text toolchain [] h in cc)
  early_cases toolchain false e (inr (d, u, t, x, y, i, n)) = other_stays toolchain d u x y

  early_stays : (toolchain : List ℕ) → HasDefinition (world_of files) b toolchain → early_base files.start c toolchain ≡ early_base files.start b toolchain
  early_stays toolchain h = early_cases toolchain (bytes_eq toolchain []) refl h

  usual_other : (toolchain : List ℕ) (d : Done) → (toolchain ≡ d.default) ⊎ (HasDefinition (world_of files) b toolchain × ((s : Done) × (units b (Setup toolchain) ≡ Some (Some s))))
      → (m : Leaving UnitLeft) → m.value.needs ≡ d → (t : Bool) → bytes_eq toolchain (default_by m) ≡ t
      → (if t then finished_base files.start (default_context (default_by m) files.start.context) (beneath_of m.value.beneath) else behind (early_base files.start c toolchain) (left_at c (Setup toolchain)))
      ≡ (if t then finished_base files.start (default_context (default_by m) files.start.context) (beneath_of m.value.beneath) else behind (early_base files.start b toolchain) (left_at b (Setup toolchain)))
  usual_other toolchain d h m e true t = refl
  usual_other toolchain d (inl h) m e false t =
      absurd (let yes_same : bytes_eq toolchain (default_by m) ≡ true = same_text toolchain (default_by m) (h ∙ ap (λ (z : Done). z.default) (sym e)) in cc)
  usual_other toolchain d (inr (h, (s, y))) m e false t =
      ap (λ (base : BaseState). behind base (left_at c (Setup toolchain))) (early_stays toolchain h)
      ∙ ap (behind (early_base files.start b toolchain)) (left_stays (Setup toolchain) s y)

  usual_stays : (toolchain : List ℕ) → HasLayer (world_of files) b (usual toolchain) → usual_base files.start c toolchain ≡ usual_base files.start b toolchain
  usual_stays toolchain (d, x, h) =
      let m = has_left (Setup []) d x in
      ap (usual_behind files.start c toolchain) m.there
      ∙ usual_other toolchain d h m.left m.done (bytes_eq toolchain (default_by m.left)) refl
      ∙ ap (usual_behind files.start b toolchain) (sym m.here)

  pub base_stays : (l : Layer) → HasLayer (world_of files) b l → base_of_layer files.start c l ≡ base_of_layer files.start b l
  base_stays (early toolchain) h = early_stays toolchain h
  base_stays (usual toolchain) h = usual_stays toolchain h

pub whole_builds_are_layered : WholeBuildsAreLayered
whole_builds_are_layered files = record {
  is = record {
    projects = λ base l. record {
      trees = seen_tree (base_of_layer files.start base l) l;
      listed = listed files;
      absent = λ path a h. seen_absent (base_of_layer files.start base l) l path a h;
    };
    imports = λ base l path. import_tree (base_of_layer files.start base l) l path;
    trees = λ base k. unit_tree (base_of_layer files.start base (layer_of k)) k;
  };
  imports_see = λ l path b c h g. ap {B = Answers → Run (Leaving ImportState)} (λ (base : BaseState) (a : Answers). import_of_layer base l path a) (base_sees files (stage_of_layer (default_of files) l) b c h g l (omega arith));
  units_see = λ k b c h g. ap {B = Answers → Run (Leaving UnitLeft)} (λ (base : BaseState) (a : Answers). unit_over base k a) (base_sees files (stage_of_layer (default_of files) (layer_of k)) b c h g (layer_of k) (omega arith));
  records_see = λ l b c h g. refl;
  one_stage = λ l p q. refl;
  asks_low = λ k path. omega arith;
  imports_based = λ l path b c h le. ap {B = Answers → Run (Leaving ImportState)} (λ (base : BaseState) (a : Answers). import_of_layer base l path a) (base_stays files b c le l h);
  units_based = λ k b c h le. ap {B = Answers → Run (Leaving UnitLeft)} (λ (base : BaseState) (a : Answers). unit_over base k a) (base_stays files b c le (layer_of k) h);
  records_based = λ l b c h le. refl;
}
