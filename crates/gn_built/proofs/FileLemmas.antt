-- The files of a build that was loaded: the first one that is asked for, those of executions, and paths in their order.
use Rattle.std.proofs.Common.{◌≡◌, ◌⊎◌, inl, inr, ℕ, ◌+◌, ◌<◌, List, [], ◌∷◌, ◌++◌, map, take, drop, length, get_or, slice_index, Option, Some, None, Bool, true, false, if◌then◌else◌, Ordering, refl, sym, ◌∙◌, ap, subst, true≢false, arith}
use Rattle.std.specs.Prelude.{is_some}
use Rattle.std.specs.Borrow.{Bor}
use Rattle.std.specs.List.{flat_map, Contains, Any, dedup, AllByRecursion}
use Rattle.std.specs.List.Sorted.{IsPermutation, IsSorted, IsStrictlySortedBy}
use Rattle.std.specs.Ordering.{nat_cmp, eq_by_cmp}
use Rattle.std.specs.declared.cmp.Ordering.TheVariants.{Less}
use Rattle.std.specs.Cmp.{IsTotalOrder, IsEquivalence, on_total}
use Rattle.std.specs.Cmp.Lexicographic.{slice_cmp, nat_list_cmp_total}
use Rattle.std.proofs.lemmas.List.{take_more, drop_more, flat_map_more, map-append}
use Rattle.std.proofs.lemmas.List.Kept.{Any-dedup, Contains-from_dedup, IsStrictlySortedBy-dedup}
use Rattle.std.proofs.lemmas.List.Sorted.{Contains-permutation, IsPermutation-sym}
use Rattle.std.proofs.lemmas.List.Elements.{Contains-append_left, Contains-append_right, Contains-append_cases, Contains-push, Contains-push_cases}
use Rattle.gn_items.specs.Questions.{question_of}
use Rattle.gn_items.specs.declared.question.Question.{Question as Asked}
use Rattle.gn_runs.specs.Runs.{Question, content_of, import_of}
use Rattle.gn_imports.specs.Asked.{in_path_order}
use Rattle.gn_imports.specs.Projects.{IsOneOf}
use Rattle.gn_imports.proofs.PathOrder.{order_same}
use Rattle.gn_core.specs.Keys.{Key, Read, Filed, content_in}
use Rattle.gn_book.specs.Logs.{Log, key_at}
use Rattle.gn_projects.specs.Loaded.{is_there, first_there}
use Rattle.gn_built.specs.Files.{paths_lent, path_list}

-- what one more execution gives stands behind what those before it have given
pub keys_more : {A : Type 0} (f : Key → List A) (l : Log) (ns : List ℕ) (i : ℕ) (initial old new : List A) → i < length ns → old ≡ initial ++ flat_map f (map (key_at l) (take i ns)) → new ≡ old ++ f (key_at l (slice_index ns i))
    → new ≡ initial ++ flat_map f (map (key_at l) (take (i + 1) ns))
keys_more f l ns i initial old new less before more =
    let all : map (key_at l) (take i ns) ++ key_at l (slice_index ns i) ∷ [] ≡ map (key_at l) (take (i + 1) ns) = sym (map-append (key_at l) (take i ns) (slice_index ns i ∷ [])) ∙ ap (map (key_at l)) (sym (take_more ns i 0 less)) in
    more ∙ (λ j. before j ++ f (key_at l (slice_index ns i))) ∙ flat_map_more f initial (map (key_at l) (take i ns)) (key_at l (slice_index ns i)) ∙ ap (λ (ks : List Key). initial ++ flat_map f ks) all

-- The first file

none_first : (filed : Filed) (q : Question) (qs : List Question) → first_there filed (q ∷ []) ≡ [] → first_there filed (q ∷ qs) ≡ first_there filed qs
none_first filed (import_of path) qs e = refl
none_first filed (content_of path) qs e = by (is_there (content_in (filed (Read path)))) e
  where
    by : (b : Bool) → (if b then path ∷ [] else []) ≡ [] → (if b then path ∷ [] else first_there filed qs) ≡ first_there filed qs
    by true e = absurd (cc e)
    by false e = refl

some_first : (filed : Filed) (q : Question) (qs : List Question) (p : List ℕ) → p ∷ [] ≡ first_there filed (q ∷ []) → p ∷ [] ≡ first_there filed (q ∷ qs)
some_first filed (import_of path) qs p e = absurd (cc e)
some_first filed (content_of path) qs p e = by (is_there (content_in (filed (Read path)))) e
  where
    by : (b : Bool) → p ∷ [] ≡ (if b then path ∷ [] else []) → p ∷ [] ≡ (if b then path ∷ [] else first_there filed qs)
    by true e = e
    by false e = absurd (cc e)

-- one question asks for a file that is there, or the others decide
pub first_ends : (filed : Filed) (q : Question) (qs : List Question) (file : Option (Bor (List ℕ))) → path_list file ≡ first_there filed (q ∷ []) → is_some file ≡ true → path_list file ≡ first_there filed (q ∷ qs)
first_ends filed q qs None e some = absurd (true≢false (sym some))
first_ends filed q qs (Some p) e some = some_first filed q qs p.now e

pub first_goes_on : (filed : Filed) (q : Question) (qs : List Question) (file : Option (Bor (List ℕ))) → path_list file ≡ first_there filed (q ∷ []) → is_some file ≡ false → first_there filed (q ∷ qs) ≡ first_there filed qs
first_goes_on filed q qs None e none = none_first filed q qs (sym e)
first_goes_on filed q qs (Some p) e none = absurd (true≢false none)

-- the questions from one on are that one and those behind it
pub questions_from : (asked : List Asked) (i : ℕ) (q : Asked) → i < length asked → q ≡ get_or asked i q → map question_of (drop i asked) ≡ question_of q ∷ map question_of (drop (i + 1) asked)
questions_from asked i q less at = ap (map question_of) (drop_more asked i q less ∙ ap (λ (z : Asked). z ∷ drop (i + 1) asked) (sym at))

-- Paths in their order

abbrev Lent : Type 0
Lent = Bor (List ℕ)

abbrev order : List ℕ → List ℕ → Ordering
order = slice_cmp nat_cmp

abbrev lent_order : Lent → Lent → Ordering
lent_order a b = order a.now b.now

lent_total : IsTotalOrder lent_order
lent_total = on_total (λ (p : Lent). p.now) nat_list_cmp_total

behind : (p : Lent) (ps : List Lent) → AllByRecursion (λ (q : Lent). lent_order p q ≡ Less) ps → AllByRecursion (λ (q : List ℕ). order p.now q ≡ Less) (paths_lent ps)
behind p [] a = tt
behind p (q ∷ ps) a = (a.0, behind p ps a.1)

sorted_lent : (ps : List Lent) → IsStrictlySortedBy lent_order ps → IsStrictlySortedBy order (paths_lent ps)
unfolding IsStrictlySortedBy
sorted_lent [] s = tt
sorted_lent (p ∷ ps) s = (behind p ps s.0, sorted_lent ps s.1)

nothing_contained : (q : Lent) → Contains [] q → ⊥
nothing_contained q c = omega (arith, c.1)

contained_cases : (x : Lent) (xs : List Lent) (q : Lent) → Contains (x ∷ xs) q → (x ≡ q) ⊎ Contains xs q
contained_cases x xs q c = elim (Contains-append_cases (x ∷ []) xs q c) [
  | inl a ↦ elim (Contains-push_cases [] x q a) [ inl n ↦ absurd (nothing_contained q n) | inr e ↦ inl e ]
  | inr b ↦ inr b
]

contained_one : (xs : List Lent) (q : Lent) → Contains xs q → IsOneOf q.now (paths_lent xs)
contained_one [] q c = absurd (nothing_contained q c)
contained_one (x ∷ xs) q c = elim (contained_cases x xs q c) [ inl e ↦ inl (ap (λ (z : Lent). z.now) (sym e)) | inr b ↦ inr (contained_one xs q b) ]

one_contained : (xs : List Lent) (p : List ℕ) → IsOneOf p (paths_lent xs) → (q : Lent) × Contains xs q × (q.now ≡ p)
one_contained [] p h = absurd h
one_contained (x ∷ xs) p (inl e) = (x, Contains-append_left (x ∷ []) xs x (Contains-push [] x), sym e)
one_contained (x ∷ xs) p (inr h) = let m = one_contained xs p h in (m.0, Contains-append_right (x ∷ []) xs m.0 m.1, m.2)

-- paths that were sorted and lost their repeats are in their order, each once
pub paths_in_order : (same : Lent → Lent → Bool) → IsEquivalence same → ((x y : Lent) → same x y ≡ eq_by_cmp lent_order x y) → ((x y : Lent) → same x y ≡ true → x.now ≡ y.now) → (old moved new : List Lent) → IsPermutation old moved → IsSorted lent_order moved
    → new ≡ dedup same moved → paths_lent new ≡ in_path_order (paths_lent old)
paths_in_order same equiv ties exact old moved new p s is =
    ap paths_lent is ∙ order_same (paths_lent (dedup same moved)) (paths_lent old) (sorted_lent (dedup same moved) (IsStrictlySortedBy-dedup lent_total ties moved s)) there back
  where
    there : (q : List ℕ) → IsOneOf q (paths_lent (dedup same moved)) → IsOneOf q (paths_lent old)
    there q h =
        let m = one_contained (dedup same moved) q h in
        subst (λ (z : List ℕ). IsOneOf z (paths_lent old)) m.2
        (contained_one old m.0 (Contains-permutation moved old m.0 (IsPermutation-sym old moved p) (Contains-from_dedup same moved m.0 m.1)))

    back : (q : List ℕ) → IsOneOf q (paths_lent old) → IsOneOf q (paths_lent (dedup same moved))
    back q h =
        let m = one_contained old q h in
        let kept = Any-dedup equiv moved m.0 (Contains-permutation old moved m.0 p m.1) in
        subst (λ (z : List ℕ). IsOneOf z (paths_lent (dedup same moved))) (sym (exact m.0 kept.1 kept.4) ∙ m.2)
        (contained_one (dedup same moved) kept.1 (kept.0, kept.2, kept.3))
