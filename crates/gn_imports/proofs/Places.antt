-- The order of places, and the least one of several calls.
use Rattle.std.proofs.Common.{◌≡◌, List, [], ◌∷◌, Bool, true, false, if◌then◌else◌, refl, sym, ◌∙◌, ap, ◌⊎◌, inl, inr}
use Rattle.std.specs.declared.cmp.Ordering.{Ordering}
use Rattle.std.specs.declared.cmp.Ordering.TheVariants.{Less, Equal, Greater}
use Rattle.std.specs.Ordering.{is_lt, is_gt, ordering_reverse}
use Rattle.std.specs.Cmp.{IsTotalOrder, nat_cmp_total, then_total, on_total, tied_itself, upto}
use Rattle.std.specs.Cmp.Lexicographic.{nat_list_cmp_total}
use Rattle.std.proofs.lemmas.Map.Lookups.{exact_unsigned, exact_bytes}
use Rattle.gn_basics.proofs.Orders.{both_equal}
use Rattle.gn_paths.specs.declared.place.Place.{Place}
use Rattle.gn_imports.specs.Causes.{Link, place_cmp, is_before, earlier, least_among}

places_total : IsTotalOrder place_cmp
places_total =
    then_total (on_total (λ (p : Place). p.file) nat_list_cmp_total)
    (then_total (on_total (λ (p : Place). p.line) nat_cmp_total) (on_total (λ (p : Place). p.column) nat_cmp_total))

place_same : (p q : Place) → place_cmp p q ≡ Equal → p ≡ q
place_same p q e =
    let e1 = both_equal _ _ e in
    let e2 = both_equal _ _ e1.1 in
    let file = exact_bytes p.file q.file e1.0 in
    let line = exact_unsigned p.line q.line e2.0 in
    let column = exact_unsigned p.column q.column e2.1 in
    λ i. record { file = file i; line = line i; column = column i }

turned : (r : Ordering) → is_lt (ordering_reverse r) ≡ is_gt r
turned Less = refl
turned Equal = refl
turned Greater = refl

-- one stands before another where the other stands behind it
before_is : (p q : Place) → is_before p q ≡ is_gt (place_cmp q p)
before_is p q = ap is_lt (places_total.antisymm p q) ∙ turned (place_cmp q p)

-- no place stands before itself
pub before_itself : (p : Place) → is_before p p ≡ false
before_itself p = ap is_lt (tied_itself places_total p)

-- what stands before neither of two in order
pub not_before : (p q r : Place) → is_before q p ≡ false → is_before r q ≡ false → is_before r p ≡ false
not_before p q r h k =
    before_is r p ∙ upto places_total p q r (sym (before_is q p) ∙ h) (sym (before_is r q) ∙ k)

-- places neither of which stands before the other are one
pub neither_before : (p q : Place) → is_before p q ≡ false → is_before q p ≡ false → p ≡ q
neither_before p q h k = by (place_cmp p q) refl
  where
    by : (r : Ordering) → place_cmp p q ≡ r → p ≡ q
    by Less e = let l : is_before p q ≡ true = ap is_lt e in cc
    by Equal e = place_same p q e
    by Greater e = let l : is_before q p ≡ true = before_is q p ∙ ap is_gt e in cc

earlier_by : (b : Bool) (p q : Place) → is_before q p ≡ b
    → (((if b then q else p) ≡ p) ⊎ ((if b then q else p) ≡ q)) × (is_before p (if b then q else p) ≡ false) × (is_before q (if b then q else p) ≡ false)
earlier_by true p q e = (inr refl, asymmetric (place_cmp q p) refl, before_itself q)
  where
    asymmetric : (r : Ordering) → place_cmp q p ≡ r → is_before p q ≡ false
    asymmetric Less k = before_is p q ∙ ap is_gt k
    asymmetric Equal k = before_is p q ∙ ap is_gt k
    asymmetric Greater k = let l : is_before q p ≡ false = ap is_lt k in cc
earlier_by false p q e = (inl refl, before_itself p, e)

-- the earlier of two places is one of them, and neither stands before it
pub earlier_is : (p q : Place) → ((earlier p q ≡ p) ⊎ (earlier p q ≡ q)) × (is_before p (earlier p q) ≡ false) × (is_before q (earlier p q) ≡ false)
earlier_is p q = earlier_by (is_before q p) p q refl

-- the call is one of these
abbrev pub IsAmong : Link → List Link → Type 0
IsAmong x [] = ⊥
IsAmong x (l ∷ ls) = (x ≡ l) ⊎ IsAmong x ls

-- the least place is one of theirs
pub least_found : (p : Place) (ls : List Link) → (p ≡ least_among p ls) ⊎ ((x : Link) × IsAmong x ls × (x.place ≡ least_among p ls))
least_found p [] = inl refl
least_found p (l ∷ ls) = by (least_found (earlier p l.place) ls) (earlier_is p l.place).0
  where
    by : (earlier p l.place ≡ least_among (earlier p l.place) ls) ⊎ ((x : Link) × IsAmong x ls × (x.place ≡ least_among (earlier p l.place) ls))
        → (earlier p l.place ≡ p) ⊎ (earlier p l.place ≡ l.place)
        → (p ≡ least_among (earlier p l.place) ls) ⊎ ((x : Link) × IsAmong x (l ∷ ls) × (x.place ≡ least_among (earlier p l.place) ls))
    by (inl e) (inl f) = inl (sym f ∙ e)
    by (inl e) (inr f) = inr (l, inl refl, sym f ∙ e)
    by (inr (x, i, e)) f = inr (x, inr i, e)

-- and none of them stands before it
pub least_first : (p : Place) (ls : List Link) → is_before p (least_among p ls) ≡ false
least_first p [] = before_itself p
least_first p (l ∷ ls) =
    not_before (least_among (earlier p l.place) ls) (earlier p l.place) p (least_first (earlier p l.place) ls) (earlier_is p l.place).1

pub least_each : (p : Place) (ls : List Link) (x : Link) → IsAmong x ls → is_before x.place (least_among p ls) ≡ false
least_each p [] x i = absurd i
least_each p (l ∷ ls) x (inl e) =
    ap (λ (y : Link). is_before y.place (least_among (earlier p l.place) ls)) e
    ∙ not_before (least_among (earlier p l.place) ls) (earlier p l.place) l.place (least_first (earlier p l.place) ls) (earlier_is p l.place).2
least_each p (l ∷ ls) x (inr i) = least_each (earlier p l.place) ls x i
