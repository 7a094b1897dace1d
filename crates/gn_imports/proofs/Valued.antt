-- What has a value among right answers, and the runs that no unusable import spoils.
use Rattle.std.proofs.Common.{◌≡◌, ℕ, suc, List, Option, Some, None, refl, sym, ◌∙◌, ap, subst}
use Rattle.gn_paths.specs.declared.place.Place.{Place}
use Rattle.gn_definitions.specs.Imported.{ImportState}
use Rattle.gn_runs.specs.Runs.{Question, content_of, import_of, Imported, has_value, is_unusable, Answers, End, ended, wrong, spoiled, needs, Run, IsTree}
use Rattle.gn_runs.specs.Laws.{Below, IsAsked, Agree, IsSettled}
use Rattle.gn_runs.proofs.TreeLaws.{tree_stays_settled, tree_stays_in_need, tree_needs_unknown, tree_unusable_spoils, tree_depends_on_asked}
use Rattle.gn_imports.specs.Rounds.{Project, knowing, imported_of, round, values, usable, final}
use Rattle.gn_imports.specs.Projects.{IsProject}
use Rattle.gn_imports.proofs.Counts.{Within}
use Rattle.gn_imports.proofs.Rounds.{rounds_grow, round_within}

-- imports that can't be used are left out
abbrev valued_of : Option Imported → Option Imported
valued_of None = None
valued_of (Some is_unusable) = None
valued_of (Some (has_value v)) = Some (has_value v)

abbrev pub valued : Answers → Answers
valued a = record { contents = a.contents; imports = λ path. valued_of (a.imports path) }

valued_same : (x : Option Imported) → (x ≡ Some is_unusable → ⊥) → valued_of x ≡ x
valued_same None h = refl
valued_same (Some is_unusable) h = absurd (h refl)
valued_same (Some (has_value v)) h = refl

valued_none : (x : Option Imported) → x ≡ None → valued_of x ≡ None
valued_none x h = rw h refl

-- a run that isn't spoiled has asked for no unusable import
pub unspoiled_valued : {A : Type 0} (meaning : Answers → Run A) → IsTree meaning → (a : Answers) → ((path : List ℕ) (p : Place) → (meaning a).end ≡ spoiled path p → ⊥) → meaning (valued a) ≡ meaning a
unspoiled_valued meaning t a h = tree_depends_on_asked meaning t a (valued a) same
  where
    same : (q : Question) → IsAsked (meaning a).asked q → Agree a (valued a) q
    same (content_of path) i = refl
    same (import_of path) i =
        valued_same (a.imports path) (λ e. let s = tree_unusable_spoils meaning t a path i e in h path s.0 s.1)

needs_unspoiled : {A : Type 0} (end : End A) (q : Question) (p : Place) → end ≡ needs q p → (path : List ℕ) (m : Place) → end ≡ spoiled path m → ⊥
needs_unspoiled end q p h path m e = cc

-- what a run needs, it needs over what has a value
pub needs_valued : {A : Type 0} (meaning : Answers → Run A) → IsTree meaning → (a : Answers) (q : Question) (p : Place) → (meaning a).end ≡ needs q p → meaning (valued a) ≡ meaning a
needs_valued meaning t a q p h = unspoiled_valued meaning t a (needs_unspoiled (meaning a).end q p h)

valued_last : (x : Option Imported) (v : Option Imported) (y : Imported) → ((u : Imported) → x ≡ Some u → Some (usable v) ≡ Some u) → valued_of x ≡ Some y → v ≡ Some y
valued_last None v y f h = cc
valued_last (Some is_unusable) v y f h = cc
valued_last (Some (has_value u)) None y f h = let e = f (has_value u) refl in cc
valued_last (Some (has_value u)) (Some w) y f h = let e = f (has_value u) refl in cc

-- the answers of both
abbrev first_of_two : Option Imported → Option Imported → Option Imported
first_of_two None y = y
first_of_two (Some x) y = Some x

joined_right : (x y : Option Imported) (v : Imported) → y ≡ Some v → ((u : Imported) → x ≡ Some u → Some u ≡ Some v) → first_of_two x y ≡ Some v
joined_right None y v h f = h
joined_right (Some u) y v h f = f u refl

no_result : (end : End ImportState) → (IsSettled end → ⊥) → imported_of end ≡ None
no_result (ended x) h = absurd (h tt)
no_result (wrong fault) h = absurd (h tt)
no_result (spoiled path place) h = absurd (h tt)
no_result (needs question place) h = refl

module _ (project : Project) (a : Answers) (within : Below a (final project)) where
  valued_within : Within (valued a).imports (values project)
  unfolding final
  valued_within path y h = valued_last (a.imports path) (values project path) y (within.imports path) h

  -- right answers that have a value are known in the last round
  pub valued_below : Below (valued a) (knowing project (values project))
  unfolding final
  valued_below = record { contents = within.contents; imports = valued_within }

  -- a run that needs an import over right answers needs it in the last round, if the import has no value there
  pub needs_last : {A : Type 0} (meaning : Answers → Run A) → IsTree meaning → (q : List ℕ) (p : Place) → (meaning a).end ≡ needs (import_of q) p → values project q ≡ None → meaning (knowing project (values project)) ≡ meaning a
  needs_last {A = A} meaning t q p h none =
      let same = needs_valued meaning t a (import_of q) p h in
      tree_stays_in_need meaning t (valued a) (knowing project (values project)) (import_of q) p valued_below (ap (λ (r : Run A). r.end) same ∙ h) none ∙ same

  module _ (is : IsProject project) where
    -- an import that needs another one over right answers has no value in the round behind one that lacks the other
    pub stuck : (n : ℕ) (path q : List ℕ) (p : Place) → (project.execute path a).end ≡ needs (import_of q) p → round project n q ≡ None → round project (suc n) path ≡ None
    stuck n path q p h lack = no_result (project.execute path (knowing project (round project n))).end no_end
      where
        both : Answers
        both = knowing project (λ r. first_of_two (round project n r) ((valued a).imports r))

        left : Below (knowing project (round project n)) both
        left = record { contents = λ r y e. e; imports = λ r y e. rw e refl }

        right : Below (valued a) both
        right = record { contents = valued_below.contents; imports = λ r y e. joined_right (round project n r) ((valued a).imports r) y e (λ u f. sym (round_within project is n r u f) ∙ valued_within r y e) }

        both_lack : both.imports q ≡ None
        both_lack = rw lack (valued_none (a.imports q) (tree_needs_unknown (project.execute path) (is.trees path) a (import_of q) p h).0)

        no_end : IsSettled (project.execute path (knowing project (round project n))).end → ⊥
        no_end s =
            let same = needs_valued (project.execute path) (is.trees path) a (import_of q) p h in
            let e = tree_stays_settled (project.execute path) (is.trees path) (knowing project (round project n)) both left s in
            let f = tree_stays_in_need (project.execute path) (is.trees path) (valued a) both (import_of q) p right (ap (λ (r : Run ImportState). r.end) same ∙ h) both_lack in
            subst IsSettled (ap (λ (r : Run ImportState). r.end) (sym e ∙ f ∙ same) ∙ h) s

    none_before : (n : ℕ) (path : List ℕ) → round project (suc n) path ≡ None → round project n path ≡ None
    none_before n path h = by (round project n path) refl
      where
        by : (x : Option Imported) → round project n path ≡ x → x ≡ None
        by None e = refl
        by (Some y) e = let more : round project (suc n) path ≡ Some y = rounds_grow project is n path y e in cc

    -- a round that lacks an import lacks those that need it
    pub lacks_back : (n : ℕ) (path q : List ℕ) (p : Place) → (project.execute path a).end ≡ needs (import_of q) p → round project n q ≡ None → round project n path ≡ None
    lacks_back n path q p h lack = none_before n path (stuck n path q p h lack)
