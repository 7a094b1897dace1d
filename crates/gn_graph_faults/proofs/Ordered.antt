-- Labels that were sorted and lost their repeats are in label order.
use Rattle.std.proofs.Common.{◌≡◌, ◌⊎◌, inl, inr, ℕ, List, [], ◌∷◌, Bool, true, false, ◌||◌, Ordering, refl, sym, ◌∙◌, ap, subst, true≢false}
use Rattle.std.specs.declared.cmp.Ordering.TheVariants.{Less, Equal, Greater}
use Rattle.std.specs.Ordering.{is_lt, is_eq, eq_by_cmp, ordering_reverse}
use Rattle.std.specs.Cmp.{IsTotalOrder, IsEquivalence, tied_itself, on_total, then_total, nat_cmp_total}
use Rattle.std.specs.Cmp.Lexicographic.{lists_total}
use Rattle.std.specs.List.{Contains, dedup}
use Rattle.std.specs.List.Sorted.{IsPermutation, IsSorted, IsSortedByClosure}
use Rattle.std.specs.Fn.{Called}
use Rattle.std.proofs.lemmas.Fn.{always_returns_same}
use denote.Ref.{Bor}
use denote.Param.Members.{Mut}
use Rattle.std.proofs.lemmas.List.Kept.{Contains-dedup, Contains-from_dedup, IsStrictlySortedBy-dedup}
use Rattle.std.proofs.lemmas.List.Sorted.{Contains-permutation, IsPermutation-sym, ranks_by}
use Rattle.gn_basics.proofs.Orders.{texts_total}
use Rattle.gn_labels.specs.declared.label.Label.{Label}
use Rattle.gn_labels.specs.contracts.label.LabelPartialEq.TheImpl.{eq-value}
use Rattle.gn_labels.specs.Labels.{order_key, label_order, is_before}
use Rattle.gn_faults.specs.Numbers.{code_number}
use Rattle.gn_dependencies.specs.Lists.{same_label, has}
use Rattle.gn_dependencies.proofs.Same.{own, same, label_equiv}
use Rattle.gn_dependencies.proofs.SameLabel.{tie}
use Rattle.gn_dependencies.proofs.Has.{or_true}
use Rattle.gn_graph_faults.specs.Order.{AreInOrder}
use Rattle.gn_graph_faults.specs.Faults.{Finding, finding_order}
use Rattle.gn_graph_faults.proofs.Sorting.{contains_first, contains_later, contains_cases, contains_nothing}

-- of two labels one comes before the other, unless they are one
abbrev pub HasNoTies : Type 0
HasNoTies = (default : List ℕ) → (a b : Label) → (is_before default a b ≡ true) ⊎ ((a ≡ b) ⊎ (is_before default b a ≡ true))

pub labels_total : (default : List ℕ) → IsTotalOrder (label_order default)
labels_total default = on_total (order_key default) texts_total

pub findings_total : (default : List ℕ) → IsTotalOrder (finding_order default)
findings_total default =
    then_total (on_total (λ (f : Finding). code_number f.code) nat_cmp_total) (on_total (λ (f : Finding). f.others) (lists_total (labels_total default)))

-- what a sort by label order leaves
pub sorted_by : (default : List ℕ) {F : Type 0} {g : Mut F (Bor Label × (Bor Label × Unit {0})) Ordering} {f : F} (xs : List Label) → IsSortedByClosure g f xs
    → ((a : Bor Label × (Bor Label × Unit {0})) (r : Ordering) (f' : F) → Called g f a r f' → (r ≡ label_order default a.0.now a.1.0.now) × (f' ≡ f)) → IsSorted (label_order default) xs
sorted_by default {g = g} {f = f} xs s h = s (is_before default) (ranks_by (labels_total default) (λ x. x))
    (always_returns_same g (λ a r. is_lt r ≡ is_before default a.0.now a.1.0.now) f (λ a r f' k. (ap is_lt (h a r f' k).0, (h a r f' k).1)))

-- ---- what a list of labels has it contains
has_by : (b : Bool) (q x : Label) (xs : List Label) → same_label q x ≡ b → (b || has xs q) ≡ true → (has xs q ≡ true → Contains xs q) → Contains (x ∷ xs) q
has_by true q x xs e h onward = subst (λ (z : Label). Contains (x ∷ xs) z) (sym (same q x e)) (contains_first x xs)
has_by false q x xs e h onward = contains_later x xs q (onward h)

pub has_contains : (xs : List Label) (q : Label) → has xs q ≡ true → Contains xs q
has_contains [] q h = absurd (cc h)
has_contains (x ∷ xs) q h = has_by (same_label q x) q x xs refl h (has_contains xs q)

pub contains_has : (xs : List Label) (q : Label) → Contains xs q → has xs q ≡ true
contains_has [] q c = absurd (contains_nothing q c)
contains_has (x ∷ xs) q c = elim (contains_cases x xs q c) [
  | inl e ↦ ap (λ b. b || has xs q) (ap (same_label q) e ∙ own q)
  | inr b ↦ ap (λ v. same_label q x || v) (contains_has xs q b) ∙ or_true (same_label q x)
]

-- two tests that are true of the same are one
same_tests : (a b : Bool) → (a ≡ true → b ≡ true) → (b ≡ true → a ≡ true) → a ≡ b
same_tests true b h g = sym (h refl)
same_tests false true h g = g refl
same_tests false false h g = refl

-- ---- labels that label order doesn't tell apart are one
module _ (no_ties : HasNoTies) (default : List ℕ) where
  not_before : (a b : Label) → label_order default a b ≡ Equal → is_before default a b ≡ false
  not_before a b e = ap is_lt e

  pub same_order : (a b : Label) → label_order default a b ≡ Equal → a ≡ b
  same_order a b e = elim (no_ties default a b) [
    | inl l ↦ absurd (true≢false (sym l ∙ ap is_lt e))
    | inr r ↦ elim r [ inl s ↦ s | inr l ↦ absurd (true≢false (sym l ∙ ap is_lt ((labels_total default).antisymm b a ∙ ap ordering_reverse e))) ]
  ]

  ties_by : (a b : Label) (s : Bool) (r : Ordering) → same_label a b ≡ s → label_order default a b ≡ r → s ≡ is_eq r
  ties_by a b true r e o = let k : a ≡ b = same a b e in ap is_eq (sym (tied_itself (labels_total default) a) ∙ ap (label_order default a) k ∙ o)
  ties_by a b false Less e o = refl
  ties_by a b false Equal e o = sym e ∙ ap (same_label a) (sym (same_order a b o)) ∙ own a
  ties_by a b false Greater e o = refl

  ties : (a b : Label) → eq-value.it a b ≡ eq_by_cmp (label_order default) a b
  ties a b = tie a b ∙ ties_by a b (same_label a b) (label_order default a b) refl refl

  equiv : IsEquivalence eq-value.it
  equiv = record {
    refl = λ a. tie a a ∙ own a;
    symm = λ a b. tie a b ∙ label_equiv.symm a b ∙ sym (tie b a);
    congr = λ a b c h. tie a c ∙ label_equiv.congr a b c (sym (tie a b) ∙ h) ∙ sym (tie b c);
  }

  pub in_order : (xs moved ys : List Label) → IsPermutation xs moved → IsSorted (label_order default) moved → ys ≡ dedup eq-value.it moved → AreInOrder default xs ys
  in_order xs moved ys p s e = subst (AreInOrder default xs) (sym e) (record {
    rises = IsStrictlySortedBy-dedup (labels_total default) ties moved s;
    same = λ q. same_tests (has (dedup eq-value.it moved) q) (has xs q)
        (λ h. contains_has xs q (Contains-permutation moved xs q (IsPermutation-sym xs moved p) (Contains-from_dedup eq-value.it moved q (has_contains (dedup eq-value.it moved) q h))))
        (λ h. contains_has (dedup eq-value.it moved) q (Contains-dedup equiv (λ a b k. same a b (sym (tie a b) ∙ k)) moved q (Contains-permutation xs moved q p (has_contains xs q h))));
  })
