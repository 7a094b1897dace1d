-- Runs over the answers that everything gets, beside those over the last round.
use Rattle.std.proofs.Common.{◌≡◌, ℕ, List, Option, Some, None, refl, sym, ◌∙◌, ap, ◌⊎◌, inl, inr}
use Rattle.gn_paths.specs.declared.place.Place.{Place}
use Rattle.gn_definitions.specs.Imported.{ImportState}
use Rattle.gn_runs.specs.Runs.{Question, content_of, import_of, Imported, has_value, is_unusable, Answers, End, ended, wrong, spoiled, needs, Run, asking_import, Tree, leaf, fault_leaf, asks_content, asks_import, run_tree, IsTree}
use Rattle.gn_runs.specs.Laws.{Below, IsSettled}
use Rattle.gn_runs.proofs.Trees.{asked_first}
use Rattle.gn_runs.proofs.TreeLaws.{tree_stays_settled, tree_needs_unknown, tree_spoiled_by_unusable}
use Rattle.gn_imports.specs.Rounds.{Project, knowing, imported_of, values, usable, final}
use Rattle.gn_imports.specs.Projects.{IsWrong, IsProject}
use Rattle.gn_imports.specs.Laws.{IsAtRest, NoneNeedsNone, IsFixed, ValueEnds, LeadsOn, UnusableLeads, without_value, spoiled_at_need, EndsAsInLastRound}
use Rattle.gn_imports.proofs.Rounds.{leaves_settled, values_rest}

-- the last round, where what has no value can't be used
abbrev all_usable : (List ℕ → Option Imported) → List ℕ → Option Imported
all_usable f path = Some (usable (f path))

import_case : {A : Type 0} (x : Option Imported) (path : List ℕ) (place : Place) (m n : ImportState → Run A) → ((y : ImportState) → m y ≡ spoiled_at_need (n y)) → asking_import (Some (usable x)) path place m ≡ spoiled_at_need (asking_import x path place n)
import_case None path place m n e = refl
import_case (Some is_unusable) path place m n e = refl
import_case (Some (has_value y)) path place m n e = ap (asked_first (import_of path)) (e y)

-- an end needs one answer
pub same_need : {A : Type 0} (end : End A) (q r : Question) (m n : Place) → end ≡ needs q m → end ≡ needs r n → q ≡ r
same_need end q r m n e f = cc

pub without_settled : {A : Type 0} (end : End A) → IsSettled end → without_value end ≡ end
without_settled (ended x) h = refl
without_settled (wrong fault) h = refl
without_settled (spoiled path place) h = refl
without_settled (needs question place) h = absurd h

-- what an end leaves, where nothing but an import can be needed
left_without : (end : End ImportState) → ((path : List ℕ) (place : Place) → end ≡ needs (content_of path) place → ⊥) → imported_of (without_value end) ≡ Some (usable (imported_of end))
left_without (ended x) h = refl
left_without (wrong fault) h = refl
left_without (spoiled path place) h = refl
left_without (needs (content_of path) place) h = absurd (h path place refl)
left_without (needs (import_of path) place) h = refl

-- an end that leaves nothing needs an import
left_none : (end : End ImportState) → ((path : List ℕ) (place : Place) → end ≡ needs (content_of path) place → ⊥) → imported_of end ≡ None → (q : List ℕ) × (p : Place) × (end ≡ needs (import_of q) p)
left_none (ended x) h e = cc
left_none (wrong fault) h e = cc
left_none (spoiled path place) h e = cc
left_none (needs (content_of path) place) h e = absurd (h path place refl)
left_none (needs (import_of path) place) h e = (path, place, refl)

-- an end that isn't spoiled over the answers that everything gets is that of the last round
unspoiled_end : {A : Type 0} (end : End A) → ((path : List ℕ) (place : Place) → without_value end ≡ spoiled path place → ⊥) → without_value end ≡ end
unspoiled_end (ended x) h = refl
unspoiled_end (wrong fault) h = refl
unspoiled_end (spoiled path place) h = refl
unspoiled_end (needs (content_of path) place) h = refl
unspoiled_end (needs (import_of path) place) h = absurd (h path place refl)

-- one that is spoiled is spoiled there, or needs that import
spoiled_end : {A : Type 0} (end : End A) (q : List ℕ) (p : Place) → without_value end ≡ spoiled q p → (end ≡ spoiled q p) ⊎ (end ≡ needs (import_of q) p)
spoiled_end (ended x) q p h = cc
spoiled_end (wrong fault) q p h = cc
spoiled_end (spoiled path place) q p h = inl h
spoiled_end (needs (content_of path) place) q p h = cc
spoiled_end (needs (import_of path) place) q p h = inr cc

-- what an execution leaves says how it ended
left_value : (end : End ImportState) (v : ImportState) → imported_of end ≡ Some (has_value v) → end ≡ ended v
left_value (ended x) v h = cc
left_value (wrong fault) v h = cc
left_value (spoiled path place) v h = cc
left_value (needs question place) v h = cc

left_unusable : (end : End ImportState) → imported_of end ≡ Some is_unusable → IsWrong end ⊎ ((q : List ℕ) × (p : Place) × (end ≡ spoiled q p))
left_unusable (ended x) h = cc
left_unusable (wrong fault) h = inl tt
left_unusable (spoiled path place) h = inr (path, place, refl)
left_unusable (needs question place) h = cc

module _ (project : Project) where
  tree_final : {A : Type 0} (f : List ℕ → Option Imported) (t : Tree A) → run_tree t (knowing project (all_usable f)) ≡ spoiled_at_need (run_tree t (knowing project f))
  tree_final f (leaf x) = refl
  tree_final f (fault_leaf fault) = refl
  tree_final f (asks_content path place next) = ap (asked_first (content_of path)) (tree_final f (next (project.content path)))
  tree_final f (asks_import path place next) =
      import_case (f path) path place (λ y. run_tree (next y) (knowing project (all_usable f))) (λ y. run_tree (next y) (knowing project f)) (λ y. tree_final f (next y))

  pub final_run : {A : Type 0} (meaning : Answers → Run A) → IsTree meaning → EndsAsInLastRound project meaning
  unfolding final
  final_run meaning t =
      t.1 (final project) ∙ tree_final (values project) t.0 ∙ ap spoiled_at_need (sym (t.1 (knowing project (values project))))

  -- what is known in the last round, everything gets
  pub values_below : Below (knowing project (values project)) (final project)
  unfolding final
  values_below = record { contents = λ path y e. e; imports = λ path y e. ap (λ x. Some (usable x)) e }

  -- a run that is settled over the last round
  pub settled_final : {A : Type 0} (meaning : Answers → Run A) → IsTree meaning → IsSettled (meaning (knowing project (values project))).end → meaning (final project) ≡ meaning (knowing project (values project))
  settled_final meaning t h = tree_stays_settled meaning t (knowing project (values project)) (final project) values_below h

  -- a run that needs an import over the last round
  pub needs_final : {A : Type 0} (meaning : Answers → Run A) → IsTree meaning → (q : List ℕ) (p : Place) → (meaning (knowing project (values project))).end ≡ needs (import_of q) p → meaning (final project) ≡ record { end = spoiled q p; asked = (meaning (knowing project (values project))).asked }
  needs_final {A = A} meaning t q p h =
      final_run meaning t ∙ ap (λ (e : End A). record { end = without_value e; asked = (meaning (knowing project (values project))).asked }) h

  -- a run that isn't spoiled over the answers that everything gets is that over the last round
  pub unspoiled_last : {A : Type 0} (meaning : Answers → Run A) → IsTree meaning → ((q : List ℕ) (p : Place) → (meaning (final project)).end ≡ spoiled q p → ⊥) → meaning (final project) ≡ meaning (knowing project (values project))
  unspoiled_last {A = A} meaning t h =
      final_run meaning t
      ∙ ap (λ (e : End A). record { end = e; asked = (meaning (knowing project (values project))).asked })
      (unspoiled_end (meaning (knowing project (values project))).end (λ q p e. h q p (ap (λ (r : Run A). r.end) (final_run meaning t) ∙ e)))

  -- one that is spoiled is spoiled there over the last round too, or needs that import
  pub spoiled_last : {A : Type 0} (meaning : Answers → Run A) → IsTree meaning → (q : List ℕ) (p : Place) → (meaning (final project)).end ≡ spoiled q p → ((meaning (knowing project (values project))).end ≡ spoiled q p) ⊎ ((meaning (knowing project (values project))).end ≡ needs (import_of q) p)
  spoiled_last {A = A} meaning t q p h =
      spoiled_end (meaning (knowing project (values project))).end q p (sym (ap (λ (r : Run A). r.end) (final_run meaning t)) ∙ h)

  -- the content of each file is known
  pub needs_no_content : {A : Type 0} (meaning : Answers → Run A) → IsTree meaning → (f : List ℕ → Option Imported) (path : List ℕ) (p : Place) → (meaning (knowing project f)).end ≡ needs (content_of path) p → ⊥
  needs_no_content meaning t f path p h =
      let none : Some (project.content path) ≡ None = (tree_needs_unknown meaning t (knowing project f) (content_of path) p h).0 in
      cc

  module _ (is : IsProject project) where
    pub at_rest : IsAtRest project
    at_rest = values_rest project is

    -- an import without a value needs one without a value
    pub none_needs : NoneNeedsNone project
    none_needs path h =
        let n = left_none (project.execute path (knowing project (values project))).end (needs_no_content (project.execute path) (is.trees path) (values project)) (at_rest path ∙ h) in
        (n.0, n.1, n.2, (tree_needs_unknown (project.execute path) (is.trees path) (knowing project (values project)) (import_of n.0) n.1 n.2).0)

    -- an import with a value, or that can't be used, has the same run over both
    pub known_final : (path : List ℕ) (y : Imported) → values project path ≡ Some y → project.execute path (final project) ≡ project.execute path (knowing project (values project))
    known_final path y h =
        settled_final (project.execute path) (is.trees path) (leaves_settled (project.execute path (knowing project (values project))).end y (at_rest path ∙ h))

    pub fixed : IsFixed project
    unfolding final
    fixed path =
        ap (λ (r : Run ImportState). imported_of r.end) (final_run (project.execute path) (is.trees path))
        ∙ left_without (project.execute path (knowing project (values project))).end (needs_no_content (project.execute path) (is.trees path) (values project))
        ∙ ap (λ x. Some (usable x)) (at_rest path)

    -- an import whose value everything gets ends with it
    pub value_ends : ValueEnds project
    value_ends path v h = left_value (project.execute path (final project)).end v (fixed path ∙ h)

    -- one that can't be used is wrong, or leads to another one that can't be used
    pub unusable_leads : UnusableLeads project
    unusable_leads path h = by (left_unusable (project.execute path (final project)).end (fixed path ∙ h))
      where
        by : (IsWrong (project.execute path (final project)).end ⊎ ((q : List ℕ) × (p : Place) × ((project.execute path (final project)).end ≡ spoiled q p))) → IsWrong (project.execute path (final project)).end ⊎ LeadsOn project path
        by (inl w) = inl w
        by (inr (q, p, e)) = inr (q, p, e, (tree_spoiled_by_unusable (project.execute path) (is.trees path) (final project) q p e).0)
