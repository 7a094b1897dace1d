-- What lists contain.
use Rattle.std.proofs.Common.{◌≡◌, ◌⊎◌, inl, inr, List, [], ◌∷◌, Bool, true, false, cond, Option, Some, None, filter, refl, sym, ◌∙◌, ap, subst, arith, true≢false}
use Rattle.std.specs.List.{Contains, filter_map, cons_option}
use Rattle.std.proofs.lemmas.List.Elements.{Contains-append_left, Contains-append_right, Contains-append_cases, Contains-push, Contains-push_cases}

module _ {A : Type 0} where
  pub contains_first : (x : A) (xs : List A) → Contains (x ∷ xs) x
  contains_first x xs = Contains-append_left (x ∷ []) xs x (Contains-push [] x)

  pub contains_later : (x : A) (xs : List A) (q : A) → Contains xs q → Contains (x ∷ xs) q
  contains_later x xs q h = Contains-append_right (x ∷ []) xs q h

  pub contains_nothing : (q : A) → Contains [] q → ⊥
  contains_nothing q h = omega (arith, h.1)

  pub contains_cases : (x : A) (xs : List A) (q : A) → Contains (x ∷ xs) q → (x ≡ q) ⊎ Contains xs q
  contains_cases x xs q h = elim (Contains-append_cases (x ∷ []) xs q h) [
    | inl a ↦ elim (Contains-push_cases [] x q a) [ inl n ↦ absurd (contains_nothing q n) | inr e ↦ inl e ]
    | inr b ↦ inr b
  ]

  -- what a test keeps
  kept_of : (test : A → Bool) (x : A) (xs : List A) (b : Bool) (q : A) → test x ≡ b → (Contains (filter test xs) q → Contains xs q × (test q ≡ true))
      → Contains (cond b (x ∷ filter test xs) (filter test xs)) q → Contains (x ∷ xs) q × (test q ≡ true)
  kept_of test x xs true q e onward c = elim (contains_cases x (filter test xs) q c) [
    | inl s ↦ subst (λ (z : A). Contains (x ∷ xs) z × (test z ≡ true)) s (contains_first x xs, e)
    | inr d ↦ let r = onward d in (contains_later x xs q r.0, r.1)
  ]
  kept_of test x xs false q e onward c = let r = onward c in (contains_later x xs q r.0, r.1)

  pub of_filter : (test : A → Bool) (xs : List A) (q : A) → Contains (filter test xs) q → Contains xs q × (test q ≡ true)
  of_filter test [] q c = absurd (contains_nothing q c)
  of_filter test (x ∷ xs) q c = kept_of test x xs (test x) q refl (of_filter test xs q) c

  kept_by : (test : A → Bool) (x : A) (xs : List A) (b : Bool) (q : A) → test x ≡ b → test q ≡ true → (Contains xs q → Contains (filter test xs) q) → Contains (x ∷ xs) q
      → Contains (cond b (x ∷ filter test xs) (filter test xs)) q
  kept_by test x xs true q e h onward c = elim (contains_cases x xs q c) [
    | inl s ↦ subst (λ (z : A). Contains (x ∷ filter test xs) z) s (contains_first x (filter test xs))
    | inr d ↦ contains_later x (filter test xs) q (onward d)
  ]
  kept_by test x xs false q e h onward c = elim (contains_cases x xs q c) [
    | inl s ↦ absurd (true≢false (sym h ∙ ap test (sym s) ∙ e))
    | inr d ↦ onward d
  ]

  pub in_filter : (test : A → Bool) (xs : List A) (q : A) → test q ≡ true → Contains xs q → Contains (filter test xs) q
  in_filter test [] q h c = absurd (contains_nothing q c)
  in_filter test (x ∷ xs) q h c = kept_by test x xs (test x) q refl h (in_filter test xs q h) c

module _ {X A : Type 0} (h : X → Option A) where
  -- what is found for the things of a list
  pub record IsFound (xs : List X) (q : A) : Type 0 where
    pub from : X
    pub inside : Contains xs from
    pub gives : h from ≡ Some q

  found_of : (x : X) (xs : List X) (one : Option A) (q : A) → h x ≡ one → (Contains (filter_map h xs) q → IsFound xs q) → Contains (cons_option one (filter_map h xs)) q
      → IsFound (x ∷ xs) q
  found_of x xs None q e onward c = let r = onward c in record { from = r.from; inside = contains_later x xs r.from r.inside; gives = r.gives }
  found_of x xs (Some y) q e onward c = elim (contains_cases y (filter_map h xs) q c) [
    | inl s ↦ record { from = x; inside = contains_first x xs; gives = e ∙ ap Some s }
    | inr d ↦ let r = onward d in record { from = r.from; inside = contains_later x xs r.from r.inside; gives = r.gives }
  ]

  pub of_filter_map : (xs : List X) (q : A) → Contains (filter_map h xs) q → IsFound xs q
  of_filter_map [] q c = absurd (contains_nothing q c)
  of_filter_map (x ∷ xs) q c = found_of x xs (h x) q refl (of_filter_map xs q) c

  own : (x : X) (one : Option A) (q : A) (rest : List A) → one ≡ Some q → Contains (cons_option one rest) q
  own x None q rest e = absurd (cc e)
  own x (Some y) q rest e = let s : y ≡ q = cc e in subst (λ (z : A). Contains (y ∷ rest) z) s (contains_first y rest)

  later : (one : Option A) (q : A) (rest : List A) → Contains rest q → Contains (cons_option one rest) q
  later None q rest c = c
  later (Some y) q rest c = contains_later y rest q c

  pub in_filter_map : (xs : List X) (x : X) (q : A) → h x ≡ Some q → Contains xs x → Contains (filter_map h xs) q
  in_filter_map [] x q e c = absurd (contains_nothing x c)
  in_filter_map (y ∷ ys) x q e c = elim (contains_cases y ys x c) [
    | inl s ↦ own y (h y) q (filter_map h ys) (ap h s ∙ e)
    | inr d ↦ later (h y) q (filter_map h ys) (in_filter_map ys x q e d)
  ]
