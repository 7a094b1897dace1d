-- What is asked through imports: these questions, all that is asked behind them, and no more.
use Rattle.std.proofs.Common.{◌≡◌, ℕ, ◌+◌, ◌-◌, ◌≤◌, ◌<◌, suc, zero, length, List, [], ◌∷◌, ◌++◌, Option, Some, None, Bool, true, false, if◌then◌else◌, refl, sym, ◌∙◌, subst, ◌⊎◌, inl, inr, arith}
use Rattle.std.specs.List.{flat_map}
use Rattle.std.specs.Str.{bytes_eq}
use Rattle.std.proofs.lemmas.Bool.{cases_lt}
use Rattle.std.proofs.lemmas.Slice.Eq.{bytes_eq-Decides}
use Rattle.gn_runs.specs.Runs.{Question, content_of, import_of, is_absent, Answers, End, ended, wrong, spoiled, needs}
use Rattle.gn_runs.specs.Laws.{Below, IsSettled, IsAsked}
use Rattle.gn_runs.proofs.TreeLaws.{import_path, tree_stays_settled, tree_asks_known}
use Rattle.gn_imports.specs.Rounds.{Project, final}
use Rattle.gn_imports.specs.Asked.{asked_by, asked_behind, asked_through, all_asked}
use Rattle.gn_imports.specs.Projects.{IsOneOf, IsWrong, IsProject, set_at}
use Rattle.gn_imports.proofs.Counts.{Within, known_of, known_le, known_same}
use Rattle.gn_imports.proofs.Sets.{set_cases, set_here}

-- Questions of two lists

asked_split : (xs ys : List Question) (q : Question) → IsAsked (xs ++ ys) q → IsAsked xs q ⊎ IsAsked ys q
asked_split [] ys q h = inr h
asked_split (x ∷ xs) ys q (inl e) = inl (inl e)
asked_split (x ∷ xs) ys q (inr h) = by (asked_split xs ys q h)
  where
    by : IsAsked xs q ⊎ IsAsked ys q → IsAsked (x ∷ xs) q ⊎ IsAsked ys q
    by (inl i) = inl (inr i)
    by (inr i) = inr i

asked_left : (xs ys : List Question) (q : Question) → IsAsked xs q → IsAsked (xs ++ ys) q
asked_left [] ys q h = absurd h
asked_left (x ∷ xs) ys q (inl e) = inl e
asked_left (x ∷ xs) ys q (inr h) = inr (asked_left xs ys q h)

asked_right : (xs ys : List Question) (q : Question) → IsAsked ys q → IsAsked (xs ++ ys) q
asked_right [] ys q h = h
asked_right (x ∷ xs) ys q h = inr (asked_right xs ys q h)

-- One level: questions, and what is asked behind each of them

module _ (next : List ℕ → List Question) where
  abbrev level : List Question → List Question
  level questions = flat_map (λ q. q ∷ asked_behind q next) questions

  -- one that is asked for by an import among these questions
  abbrev AskedBehind : List Question → Question → Type 0
  AskedBehind qs q = (path : List ℕ) × IsAsked qs (import_of path) × IsAsked (next path) q

  level_wider : (x : Question) (qs : List Question) (q : Question) → IsAsked qs q ⊎ AskedBehind qs q → IsAsked (x ∷ qs) q ⊎ AskedBehind (x ∷ qs) q
  level_wider x qs q (inl i) = inl (inr i)
  level_wider x qs q (inr (p, i, j)) = inr (p, inr i, j)

  level_split : (qs : List Question) (q : Question) → IsAsked (level qs) q → IsAsked qs q ⊎ AskedBehind qs q
  level_split [] q h = absurd h
  level_split (content_of p ∷ qs) q (inl e) = inl (inl e)
  level_split (content_of p ∷ qs) q (inr h) = level_wider (content_of p) qs q (level_split qs q h)
  level_split (import_of p ∷ qs) q (inl e) = inl (inl e)
  level_split (import_of p ∷ qs) q (inr h) =
      elim (asked_split (next p) (level qs) q h) [
        | inl i ↦ inr (p, inl refl, i)
        | inr i ↦ level_wider (import_of p) qs q (level_split qs q i)
      ]

  level_here : (qs : List Question) (q : Question) → IsAsked qs q → IsAsked (level qs) q
  level_here [] q h = absurd h
  level_here (x ∷ qs) q (inl e) = inl e
  level_here (x ∷ qs) q (inr h) = inr (asked_right (asked_behind x next) (level qs) q (level_here qs q h))

  level_behind : (qs : List Question) (path : List ℕ) (q : Question) → IsAsked qs (import_of path) → IsAsked (next path) q → IsAsked (level qs) q
  level_behind [] path q i h = absurd i
  level_behind (content_of p ∷ qs) path q (inl e) h = cc
  level_behind (import_of p ∷ qs) path q (inl e) h =
      inr (asked_left (next p) (level qs) q (subst (λ r. IsAsked (next r) q) (import_path path p e) h))
  level_behind (x ∷ qs) path q (inr i) h = inr (asked_right (asked_behind x next) (level qs) q (level_behind qs path q i h))

-- So many imports one in another

module _ (project : Project) where
  pub through_given : (n : ℕ) (qs : List Question) (q : Question) → IsAsked qs q → IsAsked (asked_through project n qs) q
  through_given zero qs q h = h
  through_given (suc n) qs q h = level_here (λ path. asked_through project n (asked_by project path)) qs q h

  through_behind : (n : ℕ) (qs : List Question) (path : List ℕ) (q : Question) → IsAsked qs (import_of path) → IsAsked (asked_through project n (asked_by project path)) q → IsAsked (asked_through project (suc n) qs) q
  through_behind n qs path q i h = level_behind (λ p. asked_through project n (asked_by project p)) qs path q i h

  through_split : (n : ℕ) (qs : List Question) (q : Question) → IsAsked (asked_through project (suc n) qs) q → IsAsked qs q ⊎ ((path : List ℕ) × IsAsked qs (import_of path) × IsAsked (asked_through project n (asked_by project path)) q)
  through_split n qs q h = level_split (λ p. asked_through project n (asked_by project p)) qs q h

  -- one import more asks for no less
  pub through_grows : (n : ℕ) (qs : List Question) (q : Question) → IsAsked (asked_through project n qs) q → IsAsked (asked_through project (suc n) qs) q
  through_grows zero qs q h = through_given (suc zero) qs q h
  through_grows (suc n) qs q h =
      elim (through_split n qs q h) [
        | inl i ↦ through_given (suc (suc n)) qs q i
        | inr w ↦ through_behind (suc n) qs w.0 q w.1 (through_grows n (asked_by project w.0) q w.2)
      ]

  -- what an import asks that is asked for is asked with one import more
  pub through_next : (n : ℕ) (qs : List Question) (path : List ℕ) (q : Question) → IsAsked (asked_through project n qs) (import_of path) → IsAsked (asked_by project path) q → IsAsked (asked_through project (suc n) qs) q
  through_next zero qs path q i h = through_behind zero qs path q i h
  through_next (suc n) qs path q i h =
      elim (through_split n qs (import_of path) i) [
        | inl j ↦ through_behind (suc n) qs path q j (through_given (suc n) (asked_by project path) q h)
        | inr w ↦ through_behind (suc n) qs w.0 q w.1 (through_next n (asked_by project w.0) path q w.2 h)
      ]

  -- and there is nothing else with one import more
  pub through_last : (n : ℕ) (qs : List Question) (q : Question) → IsAsked (asked_through project (suc n) qs) q → IsAsked (asked_through project n qs) q ⊎ ((path : List ℕ) × IsAsked (asked_through project n qs) (import_of path) × IsAsked (asked_by project path) q)
  through_last zero qs q h = through_split zero qs q h
  through_last (suc n) qs q h =
      elim (through_split (suc n) qs q h) [
        | inl i ↦ inl (through_given (suc n) qs q i)
        | inr w ↦ elim (through_last n (asked_by project w.0) q w.2) [
          | inl j ↦ inl (through_behind n qs w.0 q w.1 j)
          | inr v ↦ inr (v.0, through_behind n qs w.0 (import_of v.0) w.1 v.1, v.2)
        ]
      ]

  -- what holds of these questions, and of all that an import asks of which it holds, holds of all that is asked
  pub through_least : (P : Question → Type 0) → ((path : List ℕ) → P (import_of path) → (q : Question) → IsAsked (asked_by project path) q → P q) → (n : ℕ) (qs : List Question) → ((q : Question) → IsAsked qs q → P q) → (q : Question) → IsAsked (asked_through project n qs) q → P q
  through_least P step zero qs base q h = base q h
  through_least P step (suc n) qs base q h =
      elim (through_split n qs q h) [
        | inl i ↦ base q i
        | inr w ↦ through_least P step n (asked_by project w.0) (step w.0 (base (import_of w.0) w.1)) q w.2
      ]

  pub all_asked_given : (qs : List Question) (q : Question) → IsAsked qs q → IsAsked (all_asked project qs) q
  unfolding all_asked
  all_asked_given qs q h = through_given (suc (length project.paths)) qs q h

  pub all_asked_least : (P : Question → Type 0) → ((path : List ℕ) → P (import_of path) → (q : Question) → IsAsked (asked_by project path) q → P q) → (qs : List Question) → ((q : Question) → IsAsked qs q → P q) → (q : Question) → IsAsked (all_asked project qs) q → P q
  unfolding all_asked
  all_asked_least P step qs base q h = through_least P step (suc (length project.paths)) qs base q h

-- The imports among questions, told as what is known of paths

abbrev import_in : List Question → List ℕ → Option (Unit {0})
import_in [] p = None
import_in (content_of r ∷ qs) p = import_in qs p
import_in (import_of r ∷ qs) p = if bytes_eq r p then Some tt else import_in qs p

in_asked : (qs : List Question) (p : List ℕ) → import_in qs p ≡ Some tt → IsAsked qs (import_of p)
in_asked [] p h = cc
in_asked (content_of r ∷ qs) p h = inr (in_asked qs p h)
in_asked (import_of r ∷ qs) p h = by (bytes_eq r p) refl h (in_asked qs p)
  where
    by : (b : Bool) → bytes_eq r p ≡ b → (if b then Some tt else import_in qs p) ≡ Some tt → (import_in qs p ≡ Some tt → IsAsked qs (import_of p)) → IsAsked (import_of r ∷ qs) (import_of p)
    by true e i ih = let same : r ≡ p = (bytes_eq-Decides r p).0 e in inl cc
    by false e i ih = inr (ih i)

asked_in : (qs : List Question) (p : List ℕ) → IsAsked qs (import_of p) → import_in qs p ≡ Some tt
asked_in [] p h = absurd h
asked_in (content_of r ∷ qs) p (inl e) = cc
asked_in (content_of r ∷ qs) p (inr h) = asked_in qs p h
asked_in (import_of r ∷ qs) p (inl e) = rw ((bytes_eq-Decides r p).1 (sym (import_path p r e))) refl
asked_in (import_of r ∷ qs) p (inr h) = by (bytes_eq r p) (asked_in qs p h)
  where
    by : (b : Bool) → import_in qs p ≡ Some tt → (if b then Some tt else import_in qs p) ≡ Some tt
    by true e = refl
    by false e = e

import_in_within : (qs rs : List Question) → ((q : Question) → IsAsked qs q → IsAsked rs q) → Within (import_in qs) (import_in rs)
import_in_within qs rs le path tt h = asked_in rs path (le (import_of path) (in_asked qs path h))

-- An import at whose path there is no file asks for no other

wrong_settled : {A : Type 0} (end : End A) → IsWrong end → IsSettled end
wrong_settled (ended x) h = tt
wrong_settled (wrong fault) h = tt
wrong_settled (spoiled path place) h = tt
wrong_settled (needs question place) h = absurd h

module _ (project : Project) (is : IsProject project) where
  absent_asks : (path : List ℕ) → project.content path ≡ is_absent → (q : List ℕ) → IsAsked (asked_by project path) (import_of q) → ⊥
  unfolding final
  absent_asks path e q h = contra
    where
      -- nothing else is known than that there is no file
      alone : Answers
      alone = record { contents = set_at path (Some is_absent) (λ p. None); imports = λ p. None }

      below : Below alone (final project)
      below = record {
        contents = λ p y. set_cases path (Some is_absent) (λ r. None) p (λ x. x ≡ Some y → Some (project.content p) ≡ Some y) (λ f g. let there : project.content p ≡ is_absent = subst (λ r. project.content r ≡ is_absent) f e in cc) (λ _ g. cc);
        imports = λ p y g. cc;
      }

      is_wrong : IsWrong (project.execute path alone).end
      is_wrong = is.absent path alone (set_here path (Some is_absent) (λ p. None))

      here : IsAsked (project.execute path alone).asked (import_of q)
      here = subst (λ r. IsAsked r.asked (import_of q)) (tree_stays_settled (project.execute path) (is.trees path) alone (final project) below (wrong_settled (project.execute path alone).end is_wrong)) h

      contra : ⊥
      contra =
          let need = tree_asks_known (project.execute path) (is.trees path) alone (import_of q) here refl in
          subst IsWrong need.1 is_wrong

  asks_listed : (path q : List ℕ) → IsAsked (asked_by project path) (import_of q) → IsOneOf path project.paths
  asks_listed path q h = by (is.listed path)
    where
      by : (project.content path ≡ is_absent) ⊎ IsOneOf path project.paths → IsOneOf path project.paths
      by (inl e) = absurd (absent_asks path e q h)
      by (inr o) = o

  module _ (qs : List Question) where
    abbrev reach : ℕ → List Question
    reach n = asked_through project n qs

    -- one import more asks for nothing else
    abbrev Rests : ℕ → Type 0
    Rests n = (q : Question) → IsAsked (reach (suc n)) q → IsAsked (reach n) q

    rests_where : (n : ℕ) → ((p : List ℕ) → IsAsked (reach (suc n)) (import_of p) → IsAsked (reach n) (import_of p)) → Rests (suc n)
    rests_where n same q h = by (through_last project (suc n) qs q h)
      where
        by : IsAsked (reach (suc n)) q ⊎ ((path : List ℕ) × IsAsked (reach (suc n)) (import_of path) × IsAsked (asked_by project path) q) → IsAsked (reach (suc n)) q
        by (inl i) = i
        by (inr (p, i, j)) = through_next project n qs p q (same p i) j

    rests_later : (n j : ℕ) → Rests n → Rests (j + n)
    rests_later n zero r =
        let e : n ≡ zero + n = omega arith in
        subst (λ m. Rests m) e r
    rests_later n (suc j) r =
        let e : suc (j + n) ≡ suc j + n = omega arith in
        subst (λ m. Rests m) e (rests_where (j + n) (λ p. rests_later n j r (import_of p)))

    -- where no more files are imported, nothing else is asked two imports later
    files_rest : (n : ℕ) → known_of (import_in (reach (suc n))) project.paths ≤ known_of (import_in (reach n)) project.paths → Rests (suc (suc n))
    files_rest n c = rests_where (suc n) (λ p h. by p (through_last project (suc n) qs (import_of p) h))
      where
        same : (p : List ℕ) → IsOneOf p project.paths → IsAsked (reach (suc n)) (import_of p) → IsAsked (reach n) (import_of p)
        same p o i =
            in_asked (reach n) p (sym (known_same (import_in (reach n)) (import_in (reach (suc n))) (import_in_within (reach n) (reach (suc n)) (through_grows project n qs)) project.paths c p o) ∙ asked_in (reach (suc n)) p i)

        by : (p : List ℕ) → IsAsked (reach (suc n)) (import_of p) ⊎ ((path : List ℕ) × IsAsked (reach (suc n)) (import_of path) × IsAsked (asked_by project path) (import_of p)) → IsAsked (reach (suc n)) (import_of p)
        by p (inl i) = i
        by p (inr (r, i, j)) = through_next project n qs r (import_of p) (same r (asks_listed r p j) i) j

    no_files_rest : known_of (import_in (reach zero)) project.paths ≤ 0 → Rests (suc zero)
    no_files_rest c = rests_where zero (λ p h. by p (through_last project zero qs (import_of p) h))
      where
        none : (ps : List (List ℕ)) → known_of (import_in qs) ps ≤ 0 → (p : List ℕ) → IsOneOf p ps → IsAsked qs (import_of p) → ⊥
        none [] d p o i = absurd o
        none (x ∷ ps) d p (inl e) i = let some : import_in qs x ≡ Some tt = subst (λ y. import_in qs y ≡ Some tt) e (asked_in qs p i) in omega (arith, d, rw some at d)
        none (x ∷ ps) d p (inr o) i = none ps (omega (arith, d)) p o i

        by : (p : List ℕ) → IsAsked qs (import_of p) ⊎ ((path : List ℕ) × IsAsked qs (import_of path) × IsAsked (asked_by project path) (import_of p)) → IsAsked qs (import_of p)
        by p (inl i) = i
        by p (inr (r, i, j)) = absurd (none project.paths c r (asks_listed r p j) i)

    -- up to each count, either nothing else was asked from an earlier one on, or each has asked for one more of the files
    abbrev Progress : ℕ → Type 0
    Progress n = ((m : ℕ) × (m ≤ suc n) × Rests m) ⊎ (suc n ≤ known_of (import_in (reach n)) project.paths)

    progress : (n : ℕ) → Progress n
    progress zero = by (cases_lt 0 (known_of (import_in (reach zero)) project.paths))
      where
        by : (0 < known_of (import_in (reach zero)) project.paths) ⊎ (known_of (import_in (reach zero)) project.paths ≤ 0) → Progress zero
        by (inl lt) = inr (omega (arith, lt))
        by (inr le) = inl (suc zero, omega arith, no_files_rest le)
    progress (suc n) = by (progress n) (cases_lt (known_of (import_in (reach n)) project.paths) (known_of (import_in (reach (suc n))) project.paths))
      where
        by : Progress n
            → (known_of (import_in (reach n)) project.paths < known_of (import_in (reach (suc n))) project.paths)
            ⊎ (known_of (import_in (reach (suc n))) project.paths ≤ known_of (import_in (reach n)) project.paths)
            → Progress (suc n)
        by (inl (m, le, r)) c = inl (m, omega (arith, le), r)
        by (inr h) (inl c) = inr (omega (arith, h, c))
        by (inr h) (inr c) = inl (suc (suc n), omega arith, files_rest n c)

    last_rests : Rests (suc (length project.paths))
    last_rests = by (progress (length project.paths))
      where
        by : Progress (length project.paths) → Rests (suc (length project.paths))
        by (inl (m, le, r)) =
            let e : (suc (length project.paths) - m) + m ≡ suc (length project.paths) = omega (arith, le) in
            subst (λ n. Rests n) e (rests_later m (suc (length project.paths) - m) r)
        by (inr h) = absurd (omega (arith, h, known_le (import_in (reach (length project.paths))) project.paths))

    -- all that an import asks that is asked for is asked
    pub all_asked_closed : (path : List ℕ) → IsAsked (all_asked project qs) (import_of path) → (q : Question) → IsAsked (asked_by project path) q → IsAsked (all_asked project qs) q
    unfolding all_asked
    all_asked_closed path i q h = last_rests q (through_next project (suc (length project.paths)) qs path q i h)
