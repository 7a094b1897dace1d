-- What a table of names has are the paths that were put there.
use Rattle.std.proofs.Common.{◌≡◌, ℕ, Bool, true, false, cond, not, ◌||◌, List, [], ◌∷◌, ◌++◌, Some, slice_get, refl, sym, ap, ◌∙◌}
use Rattle.std.specs.List.{list_any, fold, filter}
use Rattle.std.specs.Str.{bytes_eq}
use Rattle.std.proofs.lemmas.Slice.Eq.{bytes_eq-Decides}
use Rattle.std.proofs.lemmas.Map.Keys.{any_passes_from_place}
use Rattle.std.proofs.lemmas.List.Folds.{list_any-append}
use Rattle.std.proofs.Math.Bool.{or-false, or_assoc}
use Rattle.gn_text.specs.Names.{with_name}
use Rattle.gn_writing.specs.Rest.{is_missing}

pub not_lacking : (names : List (List ℕ)) (q : List ℕ) (n : ℕ) → slice_get names n ≡ Some q → list_any (bytes_eq q) names ≡ true
not_lacking names q n h = any_passes_from_place (bytes_eq q) names n q h ((bytes_eq-Decides q q).1 refl)

has_old : (q x : List ℕ) (names : List (List ℕ)) → list_any (bytes_eq x) names ≡ true → list_any (bytes_eq q) names ≡ (list_any (bytes_eq q) names || bytes_eq q x)
has_old q x names h = by (bytes_eq q x) refl
  where
    by : (v : Bool) → bytes_eq q x ≡ v → list_any (bytes_eq q) names ≡ (list_any (bytes_eq q) names || v)
    by false e = sym (or-false (list_any (bytes_eq q) names))
    by true e =
        let same : q ≡ x = (bytes_eq-Decides q x).0 e in
        let there : list_any (bytes_eq q) names ≡ true = ap (λ (z : List ℕ). list_any (bytes_eq z) names) same ∙ h in
        there ∙ sym (ap (λ (v : Bool). v || true) there)

has_named : (q x : List ℕ) (names : List (List ℕ)) → list_any (bytes_eq q) (with_name names x) ≡ (list_any (bytes_eq q) names || bytes_eq q x)
has_named q x names = by (list_any (bytes_eq x) names) refl
  where
    by : (v : Bool) → list_any (bytes_eq x) names ≡ v → list_any (bytes_eq q) (cond v names (names ++ x ∷ [])) ≡ (list_any (bytes_eq q) names || bytes_eq q x)
    by true e = has_old q x names e
    by false e = list_any-append (bytes_eq q) names (x ∷ []) ∙ ap (λ (v : Bool). list_any (bytes_eq q) names || v) (or-false (bytes_eq q x))

has_all : (q : List ℕ) (names xs : List (List ℕ)) → list_any (bytes_eq q) (fold with_name names xs) ≡ (list_any (bytes_eq q) names || list_any (bytes_eq q) xs)
has_all q names [] = sym (or-false (list_any (bytes_eq q) names))
has_all q names (x ∷ xs) =
    has_all q (with_name names x) xs
    ∙ ap (λ (v : Bool). v || list_any (bytes_eq q) xs) (has_named q x names)
    ∙ or_assoc (list_any (bytes_eq q) names) (bytes_eq q x) (list_any (bytes_eq q) xs)

-- what is none of the names is none of the paths
pub rest_of_names : (others xs : List (List ℕ)) → filter (is_missing (fold with_name [] others)) xs ≡ filter (is_missing others) xs
rest_of_names others [] = refl
rest_of_names others (x ∷ xs) = by (list_any (bytes_eq x) others) (has_all x [] others) (rest_of_names others xs)
  where
    by : (v : Bool) → list_any (bytes_eq x) (fold with_name [] others) ≡ v → filter (is_missing (fold with_name [] others)) xs ≡ filter (is_missing others) xs → filter (is_missing (fold with_name [] others)) (x ∷ xs) ≡ cond (not v) (x ∷ filter (is_missing others) xs) (filter (is_missing others) xs)
    by true e next = rw e next
    by false e next = rw e (ap (λ (z : List (List ℕ)). x ∷ z) next)
