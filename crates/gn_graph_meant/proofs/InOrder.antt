-- Values in an order, each once.
use Rattle.std.proofs.Common.{◌≡◌, ◌↔◌, inl, inr, List, [], ◌∷◌, map, Bool, true, false, ◌||◌, ◌&&◌, T, is_some, Ordering, refl, sym, ◌∙◌, ap, subst}
use Rattle.std.specs.declared.cmp.Ordering.TheVariants.{Less, Equal, Greater}
use Rattle.std.specs.Ordering.{is_lt, eq_by_cmp}
use Rattle.std.specs.Cmp.{IsTotalOrder, Equal-is}
use Rattle.std.specs.List.{Contains, AllByRecursion, list_any}
use Rattle.std.specs.List.Sorted.{IsStrictlySortedBy}
use Rattle.std.specs.FinMap.{FinMap, IsAntisymmetric, from_entries, entries, entries_sorted, get-from_entries, contains_key-keys}
use Rattle.std.specs.FinMap.Entries.{is_sorted, below_all, is_some-find}
use Rattle.std.proofs.lemmas.Cmp.{eq_by_cmp_equiv}
use Rattle.std.proofs.lemmas.Map.Views.{Contains-from_any, list_any-from_Contains}
use Rattle.gn_graph_meant.specs.Computed.{in_order}
use Rattle.gn_graph_meant.proofs.Members.{contains_cases, contains_nothing}

first : (a b : Bool) → T (a && b) → T a
first true b h = tt
first false b h = absurd h

second : (a b : Bool) → T (a && b) → T b
second true b h = h
second false b h = absurd h

less : (r : Ordering) → T (is_lt r) → r ≡ Less
less Less h = refl
less Equal h = absurd h
less Greater h = absurd h

module _ {A : Type 0} (R : A → A → Ordering) where
  below : (x : A) (es : List (A × Unit {0})) → T (below_all R x es) → AllByRecursion (λ y. R x y ≡ Less) (map (λ e. e.0) es)
  below x [] h = tt
  below x (e ∷ es) h = (less (R x e.0) (first (is_lt (R x e.0)) (below_all R x es) h), below x es (second (is_lt (R x e.0)) (below_all R x es) h))

  rises : (es : List (A × Unit {0})) → T (is_sorted R es) → IsStrictlySortedBy R (map (λ e. e.0) es)
  unfolding IsStrictlySortedBy
  rises [] h = tt
  rises (e ∷ es) h = (below e.0 es (first (below_all R e.0 es) (is_sorted R es) h), rises es (second (below_all R e.0 es) (is_sorted R es) h))

  all_behind : (x : A) (xs : List A) → AllByRecursion (λ y. R x y ≡ Less) xs → (q : A) → Contains xs q → R x q ≡ Less
  all_behind x [] h q c = absurd (contains_nothing q c)
  all_behind x (y ∷ xs) h q c = elim (contains_cases y xs q c) [ inl e ↦ subst (λ (z : A). R x z ≡ Less) e h.0 | inr b ↦ all_behind x xs h.1 q b ]

  -- what stands behind the first comes behind it
  pub comes_behind : (x : A) (xs : List A) → IsStrictlySortedBy R (x ∷ xs) → (q : A) → Contains xs q → R x q ≡ Less
  unfolding IsStrictlySortedBy
  comes_behind x xs s q c = all_behind x xs s.0 q c

  any_marked : (p : A → Bool) (xs : List A) → list_any p (map (λ (e : A × Unit {0}). e.0) (map (λ x. (x, tt)) xs)) ≡ list_any p xs
  any_marked p [] = refl
  any_marked p (x ∷ xs) = ap (λ b. p x || b) (any_marked p xs)

  pub in_order_rises : (xs : List A) → IsStrictlySortedBy R (in_order R xs)
  in_order_rises xs =
      let m : FinMap R (Unit {0}) = from_entries {X = Unit {0}} {R = R} (map (λ x. (x, tt)) xs) in
      rises (entries m) (entries_sorted m)

  module _ (total : IsTotalOrder R) where
    any_in_order : (xs : List A) (q : A) → list_any (eq_by_cmp R q) (in_order R xs) ≡ list_any (eq_by_cmp R q) xs
    any_in_order xs q =
        let es : List (A × Unit {0}) = map (λ x. (x, tt)) xs in
        let m : FinMap R (Unit {0}) = from_entries {X = Unit {0}} {R = R} es in
        sym (contains_key-keys m q) ∙ ap is_some (get-from_entries total es q) ∙ is_some-find R q es ∙ any_marked (eq_by_cmp R q) xs

    -- the same are in order
    pub in_order_contains : IsAntisymmetric R → (xs : List A) (q : A) → Contains (in_order R xs) q ↔ Contains xs q
    in_order_contains alike xs q = (
      λ c. Contains-from_any one q xs (sym (any_in_order xs q) ∙ list_any-from_Contains (eq_by_cmp_equiv total) q (in_order R xs) c),
      λ c. Contains-from_any one q (in_order R xs) (any_in_order xs q ∙ list_any-from_Contains (eq_by_cmp_equiv total) q xs c),
    )
      where
        one : (x y : A) → eq_by_cmp R x y ≡ true → x ≡ y
        one x y h = alike x y ((Equal-is (R x y)).0 h)
