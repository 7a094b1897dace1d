-- Where the items stand that are found by their labels.
use Rattle.std.proofs.Common.{◌≡◌, ℕ, zero, suc, ◌<◌, List, [], ◌∷◌, Bool, true, false, cond, Option, Some, None, slice_get, refl, sym, ◌∙◌, ap, arith, true≢false}
use Rattle.gn_labels.specs.declared.label.Label.{Label}
use Rattle.gn_dependencies.proofs.At.{one_there}
use Rattle.gn_items.specs.declared.item.Item.{Item}
use Rattle.gn_items.specs.Effects.{same_label, item_at}
use Rattle.gn_labelled.specs.Laws.{IsIn, IsFirst, IsAbsent}
use Rattle.gn_labelled.proofs.Behind.{label_is, own_label}

-- the label of an item is that of the item that is tested
same_as : (q : Label) (x : Item) → x.label ≡ q → same_label q x.label ≡ true
same_as q x e = ap (same_label q) e ∙ own_label q

-- the first of a list, or the first of the rest of it
here_first : (q : Label) (x y : Item) (items : List Item) → same_label q x.label ≡ true → x ≡ y → IsFirst (x ∷ items) q y
here_first q x y items s e = record {
  place = 0;
  here = ap Some e;
  its = ap (λ (z : Item). z.label) (sym e) ∙ sym (label_is q x.label s);
  first = λ k z l a b. omega (arith, l);
}

later_first : (q : Label) (x y : Item) (items : List Item) → same_label q x.label ≡ false → IsFirst items q y → IsFirst (x ∷ items) q y
later_first q x y items s f = record { place = suc f.place; here = f.here; its = f.its; first = first }
  where
    first : (k : ℕ) (z : Item) → k < suc f.place → slice_get (x ∷ items) k ≡ Some z → z.label ≡ q → ⊥
    first zero z l a b = true≢false (sym (same_as q x (ap (λ (w : Item). w.label) (one_there x z a) ∙ b)) ∙ s)
    first (suc k) z l a b = f.first k z (omega (arith, l)) a b

pub finds : (items : List Item) (q : Label) (y : Item) → item_at q items ≡ Some y → IsFirst items q y
finds [] q y h = absurd (cc h)
finds (x ∷ items) q y h = by (finds items q y) (same_label q x.label) refl h
  where
    by : (item_at q items ≡ Some y → IsFirst items q y) → (b : Bool) → same_label q x.label ≡ b → cond b (Some x) (item_at q items) ≡ Some y → IsFirst (x ∷ items) q y
    by onward true s h = here_first q x y items s (one_there x y h)
    by onward false s h = later_first q x y items s (onward h)

-- none of the items that stand before a place has the label
abbrev NoneBefore : List Item → Label → ℕ → Type 0
NoneBefore items q place = (k : ℕ) (z : Item) → k < place → slice_get items k ≡ Some z → z.label ≡ q → ⊥

pub found : (items : List Item) (q : Label) (y : Item) (place : ℕ) → slice_get items place ≡ Some y → y.label ≡ q → NoneBefore items q place → item_at q items ≡ Some y
found [] q y place here its first = absurd (cc here)
found (x ∷ items) q y zero here its first =
    let e : x ≡ y = one_there x y here in ap (λ b. cond b (Some x) (item_at q items)) (same_as q x (ap (λ (w : Item). w.label) e ∙ its)) ∙ ap Some e
found (x ∷ items) q y (suc place) here its first = by (found items q y place here its) (same_label q x.label) refl
  where
    by : (NoneBefore items q place → item_at q items ≡ Some y) → (b : Bool) → same_label q x.label ≡ b → cond b (Some x) (item_at q items) ≡ Some y
    by onward true s = absurd (first 0 x (omega arith) refl (sym (label_is q x.label s)))
    by onward false s = onward (λ k z l a e. first (suc k) z (omega (arith, l)) a e)

pub lacks : (items : List Item) (q : Label) → item_at q items ≡ None → IsAbsent items q
lacks [] q h x (k, a) e = cc a
lacks (y ∷ items) q h x (k, a) e = by (λ h i. lacks items q h x i e) (same_label q y.label) refl h k a
  where
    by : (item_at q items ≡ None → IsIn items x → ⊥) → (b : Bool) → same_label q y.label ≡ b → cond b (Some y) (item_at q items) ≡ None → (k : ℕ) → slice_get (y ∷ items) k ≡ Some x → ⊥
    by onward true s h k a = cc h
    by onward false s h zero a = true≢false (sym (same_as q y (ap (λ (w : Item). w.label) (one_there y x a) ∙ e)) ∙ s)
    by onward false s h (suc k) a = onward h (k, a)

pub absent : (items : List Item) (q : Label) → IsAbsent items q → item_at q items ≡ None
absent items q none = by (item_at q items) refl
  where
    by : (r : Option Item) → item_at q items ≡ r → r ≡ None
    by None e = refl
    by (Some x) e = let f = finds items q x e in absurd (none x (f.place, f.here) f.its)
