-- Work over a part of what is filed is right over all of it.
use Rattle.std.proofs.Common.{◌≡◌, ℕ, List, [], Option, Some, None, refl, sym, ◌∙◌, ap, subst}
use Rattle.gn_paths.specs.declared.place.Place.{Place}
use Rattle.gn_definitions.specs.Imported.{ImportState}
use Rattle.gn_runs.specs.Runs.{Question, content_of, import_of, is_absent, is_unusable, Answers, End, ended, wrong, spoiled, needs, Run, IsTree}
use Rattle.gn_runs.specs.Laws.{Below, IsSettled, IsUnknown, IsAsked}
use Rattle.gn_runs.proofs.TreeLaws.{tree_stays_settled, tree_stays_in_need, tree_spoiled_by_unusable, tree_asks_known}
use Rattle.gn_closure.specs.Reach.{Unit_key}
use Rattle.gn_executions.specs.Base.{BaseState}
use Rattle.gn_core.specs.Keys.{Layer, Key, Read, Import, Unit_of, Resolve, Answer, no_value, unit_is, Filed, Leaving, UnitLeft, layer_of, key_of, content_in, imported_in, shown}
use Rattle.gn_core.specs.Machine.{State, NeedsAt, IsRight, IsRightImport, ClosesCycle, IsFiled, spoiled_as}
use Rattle.gn_core.specs.Layered.{IsPart, HasLayer}
use Rattle.gn_core.proofs.Kept.{shown_grows}
use Rattle.gn_projects.specs.Bases.{base_of_layer}
use Rattle.gn_projects.specs.Files.{Files, import_of_layer}
use Rattle.gn_projects.specs.Worlds.{unit_over}
use Rattle.gn_projects.proofs.Files.{import_tree}
use Rattle.gn_projects.proofs.Layered.{unit_tree, whole_builds_are_layered}
use Rattle.gn_builds.specs.Working.{evaluator, over, IsRightOver, IsInNeed}
use Rattle.gn_builds.specs.Laws.{PartsGiveAnswers, PartsGiveNeeds, NeededImportsAreRead, CyclesHaveNoValue, TreesDontMatter}

unknown_at : (filed : Filed) (l : Layer) (q : Question) → filed (key_of l q) ≡ None → IsUnknown (shown filed l) q
unknown_at filed l (content_of path) h = rw h refl
unknown_at filed l (import_of path) h = rw h refl

-- what a part has filed of an import that can't be used, all of it has
same_import : (part filed : Filed) (l : Layer) (q : List ℕ) → IsPart part filed → imported_in (part (Import l q)) ≡ Some is_unusable → filed (Import l q) ≡ part (Import l q)
same_import part filed l q le h = by (part (Import l q)) refl h
  where
    by : (x : Option Answer) → part (Import l q) ≡ x → imported_in x ≡ Some is_unusable → filed (Import l q) ≡ x
    by None e i = absurd (cc i)
    by (Some v) e i = le (Import l q) v e

-- an evaluation whose part has all that it sees is the same over all that is filed
abbrev no_files : BaseState → Files
no_files start = record { start = start; given = λ path. is_absent; paths = [] }

import_same : (start : BaseState) (part filed : Filed) (l : Layer) (path : List ℕ) → IsPart part filed → HasLayer (evaluator start) part l → (a : Answers)
    → import_of_layer (base_of_layer start filed l) l path a ≡ import_of_layer (base_of_layer start part l) l path a
import_same start part filed l path le has a =
    ap (λ (m : Answers → Run (Leaving ImportState)). m a) ((whole_builds_are_layered (no_files start)).imports_based l path part filed has le)

unit_same : (start : BaseState) (part filed : Filed) (k : Unit_key) → IsPart part filed → HasLayer (evaluator start) part (layer_of k) → (a : Answers)
    → unit_over (base_of_layer start filed (layer_of k)) k a ≡ unit_over (base_of_layer start part (layer_of k)) k a
unit_same start part filed k le has a =
    ap (λ (m : Answers → Run (Leaving UnitLeft)). m a) ((whole_builds_are_layered (no_files start)).units_based k part filed has le)

import_parts : (base : BaseState) (part : Filed) (s : State) (l : Layer) (path : List ℕ) (v : Answer) → IsPart part s.filed
    → IsRightImport (over part) l path (import_of_layer base l path (shown part l)) (import_of_layer base l path (shown part l)).end v
    → IsRightImport s l path (import_of_layer base l path (shown s.filed l)) (import_of_layer base l path (shown s.filed l)).end v
import_parts base part s l path v le right = by (m (shown part l)).end refl right
  where
    m : Answers → Run (Leaving ImportState)
    m a = import_of_layer base l path a

    below : Below (shown part l) (shown s.filed l)
    below = shown_grows part s.filed le l

    same : IsSettled (m (shown part l)).end → m (shown s.filed l) ≡ m (shown part l)
    same h = tree_stays_settled m (import_tree base l path) (shown part l) (shown s.filed l) below h

    moved : (end : End (Leaving ImportState)) → (m (shown part l)).end ≡ end → IsSettled end → IsRightImport s l path (m (shown part l)) end v
        → IsRightImport s l path (m (shown s.filed l)) (m (shown s.filed l)).end v
    moved end e settled h =
        subst (λ (r : Run (Leaving ImportState)). IsRightImport s l path r r.end v) (sym (same (subst IsSettled (sym e) settled)))
        (subst (λ (z : End (Leaving ImportState)). IsRightImport s l path (m (shown part l)) z v) (sym e) h)

    by : (end : End (Leaving ImportState)) → (m (shown part l)).end ≡ end → IsRightImport (over part) l path (m (shown part l)) end v
        → IsRightImport s l path (m (shown s.filed l)) (m (shown s.filed l)).end v
    by (ended x) e h = moved (ended x) e tt h
    by (wrong f) e h = moved (wrong f) e tt h
    by (spoiled q p) e h =
        let unusable = (tree_spoiled_by_unusable m (import_tree base l path) (shown part l) q p e).0 in
        moved (spoiled q p) e tt (h ∙ ap (λ (x : Option Answer). spoiled_as x q p (m (shown part l))) (sym (same_import part s.filed l q le unusable)))
    by (needs (content_of q) p) e h = absurd h
    by (needs (import_of q) p) e h = absurd (cc h.1.1)

unit_parts : (base : BaseState) (part : Filed) (s : State) (k : Unit_key) (v : Answer) → IsPart part s.filed
    → IsSettled (unit_over base k (shown part (layer_of k))).end × (v ≡ unit_is (unit_over base k (shown part (layer_of k))))
    → IsSettled (unit_over base k (shown s.filed (layer_of k))).end × (v ≡ unit_is (unit_over base k (shown s.filed (layer_of k))))
unit_parts base part s k v le right =
    let same = tree_stays_settled (λ a. unit_over base k a) (unit_tree base k) (shown part (layer_of k)) (shown s.filed (layer_of k)) (shown_grows part s.filed le (layer_of k)) right.0 in
    subst (λ (r : Run (Leaving UnitLeft)). IsSettled r.end × (v ≡ unit_is r)) (sym same) right

pub parts_give_answers : PartsGiveAnswers
parts_give_answers start part s (Read path) v le seen right = right
parts_give_answers start part s (Import l path) v le seen right =
    subst (λ (run : Run (Leaving ImportState)). IsRightImport s l path run run.end v) (sym (import_same start part s.filed l path le seen (shown s.filed l)))
    (import_parts (base_of_layer start part l) part s l path v le right)
parts_give_answers start part s (Unit_of k) v le seen right =
    subst (λ (run : Run (Leaving UnitLeft)). IsSettled run.end × (v ≡ unit_is run)) (sym (unit_same start part s.filed k le seen (shown s.filed (layer_of k))))
    (unit_parts (base_of_layer start part (layer_of k)) part s k v le right)
parts_give_answers start part s (Resolve label) v le seen right = right

-- what a run needs over a part and isn't filed it needs over all that is filed
needs_still : {A : Type 0} (m : Answers → Run (Leaving A)) (part filed : Filed) (l : Layer) (on : Key) (place : Place) (asked : List Question) → IsTree m → IsPart part filed
    → filed on ≡ None
    → (need : (q : Question) × (on ≡ key_of l q) × ((m (shown part l)).end ≡ needs q place) × ((m (shown part l)).asked ≡ asked))
    → ((m (shown filed l)).end ≡ needs need.0 place) × ((m (shown filed l)).asked ≡ asked)
needs_still {A} m part filed l on place asked tree le lacks need =
    let q : Question = need.0 in
    let same = tree_stays_in_need m tree (shown part l) (shown filed l) q place (shown_grows part filed le l) need.2
    (unknown_at filed l q (subst (λ (z : Key). filed z ≡ None) need.1 lacks)) in
    (ap (λ (r : Run (Leaving A)). r.end) same ∙ need.2, ap (λ (r : Run (Leaving A)). r.asked) same ∙ need.3)

pub parts_give_needs : PartsGiveNeeds
parts_give_needs start part filed (Read path) on place asked le seen lacks need = absurd need
parts_give_needs start part filed (Import l path) on place asked le seen lacks need =
    let q : Question = need.0 in
    let still = needs_still (λ a. import_of_layer (base_of_layer start part l) l path a) part filed l on place asked (import_tree (base_of_layer start part l) l path) le lacks need in
    let moved = subst (λ (run : Run (Leaving ImportState)). (run.end ≡ needs q place) × (run.asked ≡ asked)) (sym (import_same start part filed l path le seen (shown filed l))) still in
    ((q, need.1, moved.0), (q, need.1, moved.0, moved.1))
parts_give_needs start part filed (Unit_of k) on place asked le seen lacks need =
    let q : Question = need.0 in
    let l : Layer = layer_of k in
    let still = needs_still (λ a. unit_over (base_of_layer start part l) k a) part filed l on place asked (unit_tree (base_of_layer start part l) k) le lacks need in
    let moved = subst (λ (run : Run (Leaving UnitLeft)). (run.end ≡ needs q place) × (run.asked ≡ asked)) (sym (unit_same start part filed k le seen (shown filed l))) still in
    ((q, need.1, moved.0), (q, need.1, moved.0, moved.1))
parts_give_needs start part filed (Resolve label) on place asked le seen lacks need = absurd need

no_value_right : (s : State) (l : Layer) (path q : List ℕ) (place : Place) (asked : List Question) (run : Run (Leaving ImportState)) → run.end ≡ needs (import_of q) place → run.asked ≡ asked
    → ClosesCycle s (Import l path) → IsRightImport s l path run run.end (no_value q place asked)
no_value_right s l path q place asked run e same closes =
    subst (λ (z : End (Leaving ImportState)). IsRightImport s l path run z (no_value q place asked)) (sym e) (ap (no_value q place) (sym same), closes)

question_of_import : (l m : Layer) (q : List ℕ) (r : Question) → Import l q ≡ key_of m r → r ≡ import_of q
question_of_import l m q (content_of path) e = absurd (cc e)
question_of_import l m q (import_of path) e = let same : q ≡ path = cc e in ap import_of (sym same)

-- what is known at a path is filed
content_filed : (x : Option Answer) → (content_in x ≡ None → ⊥) → (v : Answer) × (x ≡ Some v)
content_filed None h = absurd (h refl)
content_filed (Some v) h = (v, refl)

-- a run that needs an import doesn't need a content
needs_one : {A : Type 0} (end : End A) (q : Question) (path : List ℕ) (p place : Place) → q ≡ import_of path → end ≡ needs q place → end ≡ needs (content_of path) p → ⊥
needs_one end q path p place is need other = let same : q ≡ content_of path = cc (sym need ∙ other) in absurd (cc (sym is ∙ same))

-- what a run has asked and isn't known is what it needs
module _ {A : Type 0} (run : Answers → Run A) (tree : IsTree run) where
  needed_is_read : (part : Filed) (l m : Layer) (path : List ℕ) (q : Question) (place : Place) → Import l path ≡ key_of m q → (run (shown part m)).end ≡ needs q place → IsAsked (run (shown part m)).asked (content_of path) → IsFiled part (Read path)
  needed_is_read part l m path q place is need asks =
      content_filed (part (Read path)) (λ e.
      let known = tree_asks_known run tree (shown part m) (content_of path) asks e in
      needs_one (run (shown part m)).end q path known.0 place (question_of_import l m path q is) need known.1)

pub needed_imports_are_read : NeededImportsAreRead
needed_imports_are_read start part (Read other) l path place asked need asks = absurd need
needed_imports_are_read start part (Import m other) l path place asked need asks =
    needed_is_read (λ a. import_of_layer (base_of_layer start part m) m other a) (import_tree (base_of_layer start part m) m other) part l m path need.0 place need.1 need.2 (subst (λ (qs : List Question). IsAsked qs (content_of path)) (sym need.3) asks)
needed_imports_are_read start part (Unit_of k) l path place asked need asks =
    needed_is_read (λ a. unit_over (base_of_layer start part (layer_of k)) k a) (unit_tree (base_of_layer start part (layer_of k)) k) part l (layer_of k) path need.0 place need.1 need.2 (subst (λ (qs : List Question). IsAsked qs (content_of path)) (sym need.3) asks)
needed_imports_are_read start part (Resolve label) l path place asked need asks = absurd need

pub cycles_have_no_value : CyclesHaveNoValue
cycles_have_no_value start s k path q place asked l is need closes =
    subst (λ (z : Key). IsRight (evaluator start) s.filed s z (no_value q place asked)) (sym is)
    (on_import (subst (λ (z : Key). IsInNeed start s.filed z (Import l q) place asked) is need) (subst (λ (z : Key). ClosesCycle s z) is closes))
  where
    on_import : IsInNeed start s.filed (Import l path) (Import l q) place asked → ClosesCycle s (Import l path) → IsRight (evaluator start) s.filed s (Import l path) (no_value q place asked)
    on_import n c =
        no_value_right s l path q place asked (import_of_layer (base_of_layer start s.filed l) l path (shown s.filed l))
        (n.2 ∙ ap (λ (z : Question). needs z place) (question_of_import l l q n.0 n.1)) n.3 c

pub trees_dont_matter : TreesDontMatter
trees_dont_matter tree s (Read path) v right = right
trees_dont_matter tree s (Import l path) v right = right
trees_dont_matter tree s (Unit_of k) v right = right
trees_dont_matter tree s (Resolve label) v right = right

-- Over all that is filed: the base is that of what is filed

pub own_answers : (start : BaseState) (s : State) (k : Key) (v : Answer) → IsRightOver start s.filed k v → IsRight (evaluator start) s.filed s k v
own_answers start s (Read path) v right = right
own_answers start s (Import l path) v right = import_parts (base_of_layer start s.filed l) s.filed s l path v (λ q x e. e) right
own_answers start s (Unit_of k) v right = right
own_answers start s (Resolve label) v right = right

pub own_needs : (start : BaseState) (filed : Filed) (k on : Key) (place : Place) (asked : List Question) → IsInNeed start filed k on place asked → NeedsAt (evaluator start) filed filed k on place
own_needs start filed (Read path) on place asked need = absurd need
own_needs start filed (Import l path) on place asked need = (need.0, need.1, need.2)
own_needs start filed (Unit_of k) on place asked need = (need.0, need.1, need.2)
own_needs start filed (Resolve label) on place asked need = absurd need
