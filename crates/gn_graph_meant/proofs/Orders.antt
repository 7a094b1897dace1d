-- The orders of labels and of faults leave no ties.
use Rattle.std.proofs.Common.{◌≡◌, ◌⊎◌, inl, inr, ℕ, List, true, false, Ordering, refl, sym, ◌∙◌, ap, true≢false}
use Rattle.std.specs.declared.cmp.Ordering.TheVariants.{Less, Equal, Greater}
use Rattle.std.specs.Ordering.{is_lt, nat_cmp, ordering_then, ordering_reverse}
use Rattle.std.specs.Cmp.{IsTotalOrder, tied_itself, on_total, then_total, nat_cmp_total}
use Rattle.std.specs.Cmp.Lexicographic.{slice_cmp, lists_total}
use Rattle.std.specs.FinMap.{IsAntisymmetric, nat_cmp-IsAntisymmetric, slice_cmp-IsAntisymmetric}
use Rattle.gn_basics.proofs.Orders.{texts_total}
use Rattle.gn_labels.specs.declared.label.Label.{Label}
use Rattle.gn_labels.specs.Labels.{order_key, label_order, is_before}
use Rattle.gn_faults.specs.declared.code.Code.{Code}
use Rattle.gn_faults.specs.Numbers.{code_number}
use Rattle.gn_graph_faults.specs.Faults.{Finding, finding_order}

-- of two labels one comes before the other, unless they are one
abbrev pub HasNoTies : Type 0
HasNoTies = (default : List ℕ) → (a b : Label) → (is_before default a b ≡ true) ⊎ ((a ≡ b) ⊎ (is_before default b a ≡ true))

-- codes with one number are one code
abbrev pub HaveNumbers : Type 0
HaveNumbers = (a b : Code) → code_number a ≡ code_number b → a ≡ b

pub labels_total : (default : List ℕ) → IsTotalOrder (label_order default)
labels_total default = on_total (order_key default) texts_total

pub findings_total : (default : List ℕ) → IsTotalOrder (finding_order default)
findings_total default =
    then_total (on_total (λ (f : Finding). code_number f.code) nat_cmp_total) (on_total (λ (f : Finding). f.others) (lists_total (labels_total default)))

pub labels_alike : HasNoTies → (default : List ℕ) → IsAntisymmetric (label_order default)
labels_alike no_ties default a b e = elim (no_ties default a b) [
  | inl l ↦ absurd (true≢false (sym l ∙ ap is_lt e))
  | inr r ↦ elim r [ inl s ↦ s | inr l ↦ absurd (true≢false (sym l ∙ ap is_lt ((labels_total default).antisymm b a ∙ ap ordering_reverse e))) ]
]

both_equal : (r s : Ordering) → ordering_then r s ≡ Equal → (r ≡ Equal) × (s ≡ Equal)
both_equal Less s e = absurd (cc e)
both_equal Equal s e = (refl, e)
both_equal Greater s e = absurd (cc e)

pub findings_alike : HaveNumbers → HasNoTies → (default : List ℕ) → IsAntisymmetric (finding_order default)
findings_alike numbers no_ties default a b e =
    let r = both_equal (nat_cmp (code_number a.code) (code_number b.code)) (slice_cmp (label_order default) a.others b.others) e in
    let code : a.code ≡ b.code = numbers a.code b.code (nat_cmp-IsAntisymmetric (code_number a.code) (code_number b.code) r.0) in
    let others : a.others ≡ b.others = slice_cmp-IsAntisymmetric (labels_alike no_ties default) a.others b.others r.1 in
    λ i. record { code = code i; others = others i }

-- what comes behind a label doesn't come before it
pub not_before : (default : List ℕ) (x y : Label) → label_order default x y ≡ Less → is_before default y x ≡ false
not_before default x y e = ap is_lt ((labels_total default).antisymm y x ∙ ap ordering_reverse e)

pub not_before_itself : (default : List ℕ) (x : Label) → is_before default x x ≡ false
not_before_itself default x = ap is_lt (tied_itself (labels_total default) x)
