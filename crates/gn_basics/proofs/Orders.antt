-- What follows from what a comparison answers, and the orders of texts and of lists of texts.
use Rattle.std.proofs.Common.{◌≡◌, ℕ, true, List, Ordering, refl, sym, ap, ◌∙◌, true≢false}
use Rattle.std.specs.Ordering.{nat_cmp, is_eq, is_lt, ordering_then}
use Rattle.std.specs.declared.cmp.Ordering.TheVariants.{Less, Equal, Greater}
use Rattle.std.specs.Cmp.{IsTotalOrder, nat_cmp_total}
use Rattle.std.specs.Cmp.Lexicographic.{slice_cmp, lists_total, lists_ties, texts_ties, pointwise_decides, bytes_decides}
use Rattle.std.proofs.lemmas.Slice.Eq.{bytes_eq-Decides}

-- what holds whatever an order answers
pub by_order : (P : Ordering → Type 0) (r : Ordering) → P Less → P Equal → P Greater → P r
by_order P Less a b c = a
by_order P Equal a b c = b
by_order P Greater a b c = c

pub by_answer : {P : Type 0} (r : Ordering) → (r ≡ Less → P) → (r ≡ Equal → P) → (r ≡ Greater → P) → P
by_answer Less a b c = a refl
by_answer Equal a b c = b refl
by_answer Greater a b c = c refl

pub less_from_test : (r : Ordering) → is_lt r ≡ true → r ≡ Less
less_from_test Less e = refl
less_from_test Equal e = absurd (true≢false (sym e))
less_from_test Greater e = absurd (true≢false (sym e))

-- a comparison that comes last decides alone
pub then_equal : (r : Ordering) → r ≡ ordering_then r Equal
then_equal Less = refl
then_equal Equal = refl
then_equal Greater = refl

-- two comparisons that together answer that all is equal
pub both_equal : (r s : Ordering) → ordering_then r s ≡ Equal → (r ≡ Equal) × (s ≡ Equal)
both_equal Less s h = cc
both_equal Equal s h = (refl, h)
both_equal Greater s h = cc

-- the order of texts
abbrev pub order : List ℕ → List ℕ → Ordering
order = slice_cmp nat_cmp

-- texts that the order doesn't tell apart are equal
pub tied : (x y : List ℕ) → order x y ≡ Equal → x ≡ y
tied x y h = (bytes_eq-Decides x y).0 (texts_ties x y ∙ ap is_eq h)

-- the order of lists of texts
abbrev pub texts_cmp : List (List ℕ) → List (List ℕ) → Ordering
texts_cmp = slice_cmp (slice_cmp nat_cmp)

pub texts_total : IsTotalOrder texts_cmp
texts_total = lists_total (lists_total nat_cmp_total)

-- lists of texts that compare equal are one
pub texts_same : (xs ys : List (List ℕ)) → texts_cmp xs ys ≡ Equal → xs ≡ ys
texts_same xs ys e = (pointwise_decides bytes_decides xs ys).0 (lists_ties (slice_cmp nat_cmp) texts_ties xs ys ∙ ap is_eq e)
