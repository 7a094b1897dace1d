-- A list in label order is determined by its labels.
use Rattle.std.proofs.Common.{◌≡◌, ◌↔◌, inl, inr, ℕ, List, [], ◌∷◌, Bool, true, false, Ordering, refl, sym, ◌∙◌, subst}
use Rattle.std.specs.declared.cmp.Ordering.TheVariants.{Less}
use Rattle.std.specs.Cmp.{IsTotalOrder, tied_itself}
use Rattle.std.specs.List.{Contains}
use Rattle.std.specs.List.Sorted.{IsStrictlySortedBy}
use Rattle.std.proofs.lemmas.Map.Views.{Contains-from_any, list_any-from_Contains}
use Rattle.gn_labels.specs.declared.label.Label.{Label}
use Rattle.gn_labels.specs.Labels.{label_order}
use Rattle.gn_dependencies.specs.Lists.{has}
use Rattle.gn_dependencies.proofs.Same.{same, label_equiv}
use Rattle.gn_graph_meant.specs.Computed.{in_order}
use Rattle.gn_graph_meant.proofs.Members.{contains_first, contains_later, contains_cases, contains_nothing}
use Rattle.gn_graph_meant.proofs.InOrder.{in_order_rises, in_order_contains, comes_behind}
use Rattle.gn_graph_meant.proofs.Orders.{HasNoTies, labels_total, labels_alike}
use Rattle.gn_resolved_meant.specs.Laws.{MembersDecide, PutsInOrder, IsInOrder}

module _ {A : Type 0} (R : A → A → Ordering) (total : IsTotalOrder R) where
  sorted_rest : (x : A) (xs : List A) → IsStrictlySortedBy R (x ∷ xs) → IsStrictlySortedBy R xs
  unfolding IsStrictlySortedBy
  sorted_rest x xs s = s.1

  -- nothing comes before itself
  never : (z : A) → R z z ≡ Less → ⊥
  never z h = let e = tied_itself total z in cc (e, h)

  -- where two lists begin with the same, what stands later in one stands later in the other
  later : (x y : A) (xs ys : List A) → IsStrictlySortedBy R (x ∷ xs) → x ≡ y → ((q : A) → Contains (x ∷ xs) q → Contains (y ∷ ys) q) → (q : A) → Contains xs q → Contains ys q
  later x y xs ys s e to q c = elim (contains_cases y ys q (to q (contains_later x xs q c))) [
    | inl f ↦ absurd (never x (subst (λ z. R x z ≡ Less) (sym f ∙ sym e) (comes_behind R x xs s q c)))
    | inr a ↦ a
  ]

  same_sorted : (xs ys : List A) → IsStrictlySortedBy R xs → IsStrictlySortedBy R ys → ((q : A) → Contains xs q → Contains ys q) → ((q : A) → Contains ys q → Contains xs q) → xs ≡ ys
  same_sorted [] [] s t to back = refl
  same_sorted [] (y ∷ ys) s t to back = absurd (contains_nothing y (back y (contains_first y ys)))
  same_sorted (x ∷ xs) [] s t to back = absurd (contains_nothing x (to x (contains_first x xs)))
  same_sorted (x ∷ xs) (y ∷ ys) s t to back =
      let rest = same_sorted xs ys (sorted_rest x xs s) (sorted_rest y ys t) (later x y xs ys s head to) (later y x ys xs t (sym head) back) in
      λ i. head i ∷ rest i
    where
      head : x ≡ y
      head = elim (contains_cases y ys x (to x (contains_first x xs))) [
        | inl e ↦ sym e
        | inr a ↦ elim (contains_cases x xs y (back y (contains_first y ys))) [
          | inl e ↦ e
          | inr b ↦ absurd (never x (total.trans x y x (comes_behind R x xs s y b) (comes_behind R y ys t x a)))
        ]
      ]

-- two tests that are true of the same are one
pub same_tests : (a b : Bool) → (a ≡ true) ↔ (b ≡ true) → a ≡ b
same_tests true b h = sym (h.0 refl)
same_tests false true h = h.1 refl
same_tests false false h = refl

pub members_decide : MembersDecide
members_decide default xs ys s t alike = same_sorted (label_order default) (labels_total default) xs ys s t
    (λ q c. Contains-from_any same q ys ((alike q).0 (list_any-from_Contains label_equiv q xs c)))
    (λ q c. Contains-from_any same q xs ((alike q).1 (list_any-from_Contains label_equiv q ys c)))

module _ (no_ties : HasNoTies) where
  -- a list in order has the same labels
  pub in_order_has : (default : List ℕ) (xs : List Label) (q : Label) → (has (in_order (label_order default) xs) q ≡ true) ↔ (has xs q ≡ true)
  in_order_has default xs q =
      let alike = in_order_contains (label_order default) (labels_total default) (labels_alike no_ties default) xs q in (
        (λ h. list_any-from_Contains label_equiv q xs (alike.0 (Contains-from_any same q (in_order (label_order default) xs) h))),
        (λ h. list_any-from_Contains label_equiv q (in_order (label_order default) xs) (alike.1 (Contains-from_any same q xs h))),
      )

  pub puts_in_order : PutsInOrder
  puts_in_order default xs = record {
    rises = in_order_rises (label_order default) xs;
    same = λ q. same_tests (has (in_order (label_order default) xs) q) (has xs q) (in_order_has default xs q);
  }

  pub is_in_order : IsInOrder
  is_in_order default xs ys a = members_decide default ys (in_order (label_order default) xs) a.rises (in_order_rises (label_order default) xs) (λ q. (
    (λ h. (in_order_has default xs q).1 (sym (a.same q) ∙ h)),
    (λ h. a.same q ∙ (in_order_has default xs q).0 h),
  ))
