-- Paths that weren't known before.
use Rattle.std.proofs.Common.{◌≡◌, ◌⊎◌, inl, inr, ℕ, List, [], ◌∷◌, ◌++◌, Bool, true, false, not, cond, refl, sym, ◌∙◌, ap, append-nil, true≢false}
use Rattle.std.proofs.lemmas.Bool.{or_left, or_right}
use Rattle.std.specs.List.{filter, list_any, IsDistinct, AllByRecursion}
use Rattle.std.specs.Str.{bytes_eq}
use Rattle.std.proofs.lemmas.Slice.Eq.{bytes_eq-Decides}
use Rattle.gn_environment.specs.Chains.{is_one_of}
use Rattle.gn_imports.specs.Projects.{IsOneOf}
use Rattle.gn_imports.proofs.PathOrder.{path_eq}
use Rattle.gn_builds.specs.Driving.{unknown_of}

-- Paths that pass a test

distinct_if : (b : Bool) (p : List ℕ) (ps : List (List ℕ)) → AllByRecursion (λ y. path_eq p y ≡ false) ps → IsDistinct path_eq ps → IsDistinct path_eq (cond b (p ∷ ps) ps)
unfolding IsDistinct
distinct_if true p ps a d = (a, d)
distinct_if false p ps a d = d

module _ (test : List ℕ → Bool) where
  passes : (ps : List (List ℕ)) (path : List ℕ) → IsOneOf path (filter test ps) → IsOneOf path ps × (test path ≡ true)
  passes [] path i = absurd i
  passes (p ∷ ps) path i = by (test p) refl i (passes ps path)
    where
      by : (b : Bool) → test p ≡ b → IsOneOf path (cond b (p ∷ filter test ps) (filter test ps)) → (IsOneOf path (filter test ps) → IsOneOf path ps × (test path ≡ true)) → IsOneOf path (p ∷ ps) × (test path ≡ true)
      by true e (inl same) ih = (inl same, ap test same ∙ e)
      by true e (inr j) ih = let later = ih j in (inr later.0, later.1)
      by false e j ih = let later = ih j in (inr later.0, later.1)

  stays : (ps : List (List ℕ)) (path : List ℕ) → test path ≡ true → IsOneOf path ps → IsOneOf path (filter test ps)
  stays [] path t i = absurd i
  stays (p ∷ ps) path t i = by (test p) refl i (stays ps path t)
    where
      by : (b : Bool) → test p ≡ b → IsOneOf path (p ∷ ps) → (IsOneOf path ps → IsOneOf path (filter test ps)) → IsOneOf path (cond b (p ∷ filter test ps) (filter test ps))
      by true e (inl same) ih = inl same
      by true e (inr j) ih = inr (ih j)
      by false e (inl same) ih = absurd (true≢false (sym t ∙ ap test same ∙ e))
      by false e (inr j) ih = ih j

  all_stay : (P : List ℕ → Type 0) (ps : List (List ℕ)) → AllByRecursion P ps → AllByRecursion P (filter test ps)
  all_stay P [] h = tt
  all_stay P (p ∷ ps) h = by (test p) h.0 (all_stay P ps h.1)
    where
      by : (b : Bool) → P p → AllByRecursion P (filter test ps) → AllByRecursion P (cond b (p ∷ filter test ps) (filter test ps))
      by true x ih = (x, ih)
      by false x ih = ih

  distinct_stay : (ps : List (List ℕ)) → IsDistinct path_eq ps → IsDistinct path_eq (filter test ps)
  unfolding IsDistinct
  distinct_stay [] d = tt
  distinct_stay (p ∷ ps) d = distinct_if (test p) p (filter test ps) (all_stay (λ y. path_eq p y ≡ false) ps d.0) (distinct_stay ps d.1)

-- Paths that weren't known

abbrev is_new : List (List ℕ) → List ℕ → Bool
is_new known path = not (is_one_of path known)

pub unknown_distinct : (known ps : List (List ℕ)) → IsDistinct path_eq ps → IsDistinct path_eq (unknown_of known ps)
unfolding unknown_of
unknown_distinct known ps d = distinct_stay (is_new known) ps d

pub unknown_among : (known ps qs : List (List ℕ)) → ((path : List ℕ) → IsOneOf path ps → IsOneOf path qs) → (path : List ℕ) → IsOneOf path (unknown_of known ps) → IsOneOf path (unknown_of known qs)
unfolding unknown_of
unknown_among known ps qs f path i =
    let passed = passes (is_new known) ps path i in
    stays (is_new known) qs path passed.1 (f path passed.0)

pub unknown_is_one : (known ps : List (List ℕ)) (path : List ℕ) → IsOneOf path (unknown_of known ps) → IsOneOf path ps
unfolding unknown_of
unknown_is_one known ps path i = (passes (is_new known) ps path i).0

known_is_one : (known : List (List ℕ)) (path : List ℕ) → IsOneOf path known → is_one_of path known ≡ true
known_is_one [] path i = absurd i
known_is_one (k ∷ ks) path (inl same) = or_left (bytes_eq path k) (list_any (bytes_eq path) ks) ((bytes_eq-Decides path k).1 same)
known_is_one (k ∷ ks) path (inr i) = or_right (bytes_eq path k) (list_any (bytes_eq path) ks) (known_is_one ks path i)

pub unknown_not_known : (known ps : List (List ℕ)) (path : List ℕ) → IsOneOf path (unknown_of known ps) → IsOneOf path known → ⊥
unfolding unknown_of
unknown_not_known known ps path i k =
    let passed = passes (is_new known) ps path i in
    absurd (true≢false (sym passed.1 ∙ ap not (known_is_one known path k)))

-- one more path

filter_one : (test : List ℕ → Bool) (ps : List (List ℕ)) (path : List ℕ) → filter test (ps ++ path ∷ []) ≡ filter test ps ++ cond (test path) (path ∷ []) []
filter_one test [] path = refl
filter_one test (p ∷ ps) path = by (test p) (filter test (ps ++ path ∷ [])) (filter test ps) (filter_one test ps path)
  where
    by : (b : Bool) (xs ys : List (List ℕ)) → xs ≡ ys ++ cond (test path) (path ∷ []) [] → cond b (p ∷ xs) xs ≡ cond b (p ∷ ys) ys ++ cond (test path) (path ∷ []) []
    by true xs ys e = ap (λ (zs : List (List ℕ)). p ∷ zs) e
    by false xs ys e = e

-- it wasn't known
pub unknown_more : (known ps : List (List ℕ)) (path : List ℕ) → is_one_of path known ≡ false → unknown_of known (ps ++ path ∷ []) ≡ unknown_of known ps ++ path ∷ []
unfolding unknown_of
unknown_more known ps path e = filter_one (is_new known) ps path ∙ ap (λ (b : Bool). filter (is_new known) ps ++ cond (not b) (path ∷ []) []) e

-- it was
pub unknown_same : (known ps : List (List ℕ)) (path : List ℕ) → is_one_of path known ≡ true → unknown_of known (ps ++ path ∷ []) ≡ unknown_of known ps
unfolding unknown_of
unknown_same known ps path e =
    filter_one (is_new known) ps path ∙ ap (λ (b : Bool). filter (is_new known) ps ++ cond (not b) (path ∷ []) []) e ∙ append-nil (filter (is_new known) ps)

-- Paths of two lists

pub one_front : (xs ys : List (List ℕ)) (path : List ℕ) → IsOneOf path xs → IsOneOf path (xs ++ ys)
one_front [] ys path i = absurd i
one_front (x ∷ xs) ys path (inl e) = inl e
one_front (x ∷ xs) ys path (inr i) = inr (one_front xs ys path i)

pub one_back : (xs ys : List (List ℕ)) (path : List ℕ) → IsOneOf path ys → IsOneOf path (xs ++ ys)
one_back [] ys path i = i
one_back (x ∷ xs) ys path i = inr (one_back xs ys path i)

pub one_either : (xs ys : List (List ℕ)) (path : List ℕ) → IsOneOf path (xs ++ ys) → IsOneOf path xs ⊎ IsOneOf path ys
one_either [] ys path i = inr i
one_either (x ∷ xs) ys path (inl e) = inl (inl e)
one_either (x ∷ xs) ys path (inr i) = elim (one_either xs ys path i) [ inl j ↦ inl (inr j) | inr j ↦ inr j ]
