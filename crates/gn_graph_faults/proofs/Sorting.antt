-- Lists in strict order, and what they contain.
use Rattle.std.proofs.Common.{◌≡◌, ◌⊎◌, inl, inr, List, [], ◌∷◌, ◌++◌, map, Ordering, refl, sym, ◌∙◌, subst, arith}
use Rattle.std.specs.declared.cmp.Ordering.TheVariants.{Less}
use Rattle.std.specs.Cmp.{IsTotalOrder, tied_itself}
use Rattle.std.specs.List.{Contains, AllByRecursion}
use Rattle.std.specs.List.Sorted.{IsStrictlySortedBy}
use Rattle.std.proofs.lemmas.List.Elements.{Contains-append_left, Contains-append_right, Contains-append_cases, Contains-push, Contains-push_cases}

module _ {A : Type 0} where
  pub contains_first : (x : A) (xs : List A) → Contains (x ∷ xs) x
  contains_first x xs = Contains-append_left (x ∷ []) xs x (Contains-push [] x)

  pub contains_later : (x : A) (xs : List A) (q : A) → Contains xs q → Contains (x ∷ xs) q
  contains_later x xs q h = Contains-append_right (x ∷ []) xs q h

  pub contains_nothing : (q : A) → Contains [] q → ⊥
  contains_nothing q h = omega (arith, h.1)

  pub contains_cases : (x : A) (xs : List A) (q : A) → Contains (x ∷ xs) q → (x ≡ q) ⊎ Contains xs q
  contains_cases x xs q h = elim (Contains-append_cases (x ∷ []) xs q h) [
    | inl a ↦ elim (Contains-push_cases [] x q a) [ inl n ↦ absurd (contains_nothing q n) | inr e ↦ inl e ]
    | inr b ↦ inr b
  ]

  all_of : (P : A → Type 0) (xs : List A) → ((x : A) → Contains xs x → P x) → AllByRecursion P xs
  all_of P [] h = tt
  all_of P (x ∷ xs) h = (h x (contains_first x xs), all_of P xs (λ q c. h q (contains_later x xs q c)))

  of_all : (P : A → Type 0) (xs : List A) → AllByRecursion P xs → (q : A) → Contains xs q → P q
  of_all P [] a q c = absurd (contains_nothing q c)
  of_all P (x ∷ xs) a q c = elim (contains_cases x xs q c) [ inl e ↦ subst P e a.0 | inr b ↦ of_all P xs a.1 q b ]

  -- what stands behind the first comes behind it
  pub comes_behind : (R : A → A → Ordering) (x : A) (xs : List A) → IsStrictlySortedBy R (x ∷ xs) → (q : A) → Contains xs q → R x q ≡ Less
  unfolding IsStrictlySortedBy
  comes_behind R x xs s q c = of_all (λ y. R x y ≡ Less) xs s.0 q c

  pub sorted_rest : (R : A → A → Ordering) (x : A) (xs : List A) → IsStrictlySortedBy R (x ∷ xs) → IsStrictlySortedBy R xs
  unfolding IsStrictlySortedBy
  sorted_rest R x xs s = s.1

  pub sorted_nothing : (R : A → A → Ordering) → IsStrictlySortedBy R []
  unfolding IsStrictlySortedBy
  sorted_nothing R = tt

  pub sorted_one : (R : A → A → Ordering) (x : A) → IsStrictlySortedBy R (x ∷ [])
  unfolding IsStrictlySortedBy
  sorted_one R x = (tt, tt)

  -- two lists, one behind the other, where all of the second comes behind all of the first
  pub sorted_joined : (R : A → A → Ordering) (xs ys : List A) → IsStrictlySortedBy R xs → IsStrictlySortedBy R ys → ((x y : A) → Contains xs x → Contains ys y → R x y ≡ Less)
      → IsStrictlySortedBy R (xs ++ ys)
  unfolding IsStrictlySortedBy
  sorted_joined R [] ys s t h = t
  sorted_joined R (x ∷ xs) ys s t h = (
    all_of (λ y. R x y ≡ Less) (xs ++ ys) (λ q c. elim (Contains-append_cases xs ys q c) [ inl a ↦ of_all (λ y. R x y ≡ Less) xs s.0 q a | inr b ↦ h x q (contains_first x xs) b ]),
    sorted_joined R xs ys s.1 t (λ a b c d. h a b (contains_later x xs a c) d),
  )

  -- nothing comes before itself
  never : (R : A → A → Ordering) → IsTotalOrder R → (z : A) → R z z ≡ Less → ⊥
  never R o z h = let e = tied_itself o z in cc (e, h)

  -- where two lists begin with the same, what stands later in one stands later in the other
  later : (R : A → A → Ordering) → IsTotalOrder R → (x y : A) (xs ys : List A) → IsStrictlySortedBy R (x ∷ xs) → x ≡ y → ((q : A) → Contains (x ∷ xs) q → Contains (y ∷ ys) q)
      → (q : A) → Contains xs q → Contains ys q
  later R o x y xs ys s e to q c = elim (contains_cases y ys q (to q (contains_later x xs q c))) [
    | inl f ↦ absurd (never R o x (subst (λ z. R x z ≡ Less) (sym f ∙ sym e) (comes_behind R x xs s q c)))
    | inr a ↦ a
  ]

  -- two lists in strict order that contain the same are one
  pub same_sorted : (R : A → A → Ordering) → IsTotalOrder R → (xs ys : List A) → IsStrictlySortedBy R xs → IsStrictlySortedBy R ys → ((q : A) → Contains xs q → Contains ys q)
      → ((q : A) → Contains ys q → Contains xs q) → xs ≡ ys
  same_sorted R o [] [] s t to back = refl
  same_sorted R o [] (y ∷ ys) s t to back = absurd (contains_nothing y (back y (contains_first y ys)))
  same_sorted R o (x ∷ xs) [] s t to back = absurd (contains_nothing x (to x (contains_first x xs)))
  same_sorted R o (x ∷ xs) (y ∷ ys) s t to back =
      let rest = same_sorted R o xs ys (sorted_rest R x xs s) (sorted_rest R y ys t) (later R o x y xs ys s head to) (later R o y x ys xs t (sym head) back) in
      λ i. head i ∷ rest i
    where
      head : x ≡ y
      head = elim (contains_cases y ys x (to x (contains_first x xs))) [
        | inl e ↦ sym e
        | inr a ↦ elim (contains_cases x xs y (back y (contains_first y ys))) [
          | inl e ↦ e
          | inr b ↦ absurd (never R o x (o.trans x y x (comes_behind R x xs s y b) (comes_behind R y ys t x a)))
        ]
      ]

module _ {A B : Type 0} (f : A → B) where
  pub contains_mapped : (xs : List A) (x : A) → Contains xs x → Contains (map f xs) (f x)
  contains_mapped [] x c = absurd (contains_nothing x c)
  contains_mapped (y ∷ xs) x c = elim (contains_cases y xs x c) [
    | inl e ↦ subst (λ (z : A). Contains (f y ∷ map f xs) (f z)) e (contains_first (f y) (map f xs))
    | inr b ↦ contains_later (f y) (map f xs) (f x) (contains_mapped xs x b)
  ]

  pub mapped_contains : (xs : List A) (z : B) → Contains (map f xs) z → (x : A) × Contains xs x × (f x ≡ z)
  mapped_contains [] z c = absurd (contains_nothing z c)
  mapped_contains (y ∷ xs) z c = elim (contains_cases (f y) (map f xs) z c) [
    | inl e ↦ (y, contains_first y xs, e)
    | inr b ↦ let r = mapped_contains xs z b in (r.0, contains_later y xs r.0 r.1, r.2)
  ]

  all_mapped : (P : A → Type 0) (Q : B → Type 0) → ((x : A) → P x → Q (f x)) → (xs : List A) → AllByRecursion P xs → AllByRecursion Q (map f xs)
  all_mapped P Q h [] a = tt
  all_mapped P Q h (x ∷ xs) a = (h x a.0, all_mapped P Q h xs a.1)

  pub sorted_mapped : (R : A → A → Ordering) (S : B → B → Ordering) → ((x y : A) → R x y ≡ Less → S (f x) (f y) ≡ Less) → (xs : List A) → IsStrictlySortedBy R xs
      → IsStrictlySortedBy S (map f xs)
  unfolding IsStrictlySortedBy
  sorted_mapped R S h [] s = tt
  sorted_mapped R S h (x ∷ xs) s = (all_mapped (λ y. R x y ≡ Less) (λ z. S (f x) z ≡ Less) (h x) xs s.0, sorted_mapped R S h xs s.1)
