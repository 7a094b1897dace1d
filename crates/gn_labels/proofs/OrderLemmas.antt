-- Label order.
use Rattle.std.proofs.Common.{◌≡◌, ◌⊎◌, inl, inr, List, [], ◌∷◌, ℕ, Bool, true, false, cond, refl, sym, ap, ◌∙◌}
use Rattle.std.specs.declared.cmp.Ordering.{Ordering}
use Rattle.std.specs.declared.cmp.Ordering.TheVariants.{Less, Equal, Greater}
use Rattle.std.specs.Ordering.{is_lt, ordering_then, ordering_reverse, nat_cmp}
use Rattle.std.specs.Str.{bytes_eq}
use Rattle.std.specs.Cmp.{tied_itself}
use Rattle.std.specs.Cmp.Lexicographic.{slice_cmp, bytes_decides}
use Rattle.gn_labels.specs.declared.label.Label.{Label}
use Rattle.gn_labels.specs.contracts.key.LabelKeyOrd.TheImpl.{cmp-value}
use Rattle.gn_labels.specs.Keys.{other_than, key_of}
use Rattle.gn_labels.specs.Labels.{toolchain_key, order_key, label_order, is_before}
use Rattle.std.specs.Option.{option_cmp}
use Rattle.std.specs.Prelude.{None, Some}
use Rattle.gn_basics.proofs.Orders.{then_equal, texts_cmp, texts_total, texts_same, less_from_test}

-- a comparison that comes last decides alone
pub lt_then_equal : (r : Ordering) → is_lt (ordering_then r Equal) ≡ is_lt r
lt_then_equal Less = refl
lt_then_equal Equal = refl
lt_then_equal Greater = refl

-- no label comes before itself
pub before_itself : (default : List ℕ) (a : Label) → is_before default a a ≡ false
before_itself default a = ap is_lt (tied_itself texts_total (order_key default a))

-- label order is transitive
pub before_before : (default : List ℕ) (a b c : Label) → is_before default a b ≡ true → is_before default b c ≡ true → is_before default a c ≡ true
before_before default a b c h g =
    ap is_lt (texts_total.trans (order_key default a) (order_key default b) (order_key default c) (less_from_test _ h) (less_from_test _ g))

-- toolchains that are ordered alike are one
key_same : (default s t : List ℕ) → toolchain_key default s ≡ toolchain_key default t → s ≡ t
key_same default s t = by (bytes_eq s default) (bytes_eq t default) refl refl
  where
    by : (p q : Bool) → bytes_eq s default ≡ p → bytes_eq t default ≡ q → toolchain_key default s ≡ toolchain_key default t → s ≡ t
    by true true e f h = (bytes_decides s default).0 e ∙ sym ((bytes_decides t default).0 f)
    by true false e f h =
        let q : toolchain_key default s ≡ [] = ap (λ b. cond b [] (0 ∷ s)) e in
        let r : toolchain_key default t ≡ 0 ∷ t = ap (λ b. cond b [] (0 ∷ t)) f in
        cc
    by false true e f h =
        let q : toolchain_key default s ≡ 0 ∷ s = ap (λ b. cond b [] (0 ∷ s)) e in
        let r : toolchain_key default t ≡ [] = ap (λ b. cond b [] (0 ∷ t)) f in
        cc
    by false false e f h =
        let q : toolchain_key default s ≡ 0 ∷ s = ap (λ b. cond b [] (0 ∷ s)) e in
        let r : toolchain_key default t ≡ 0 ∷ t = ap (λ b. cond b [] (0 ∷ t)) f in
        cc

-- labels that are ordered alike are one
label_same : (default : List ℕ) (a b : Label) → order_key default a ≡ order_key default b → a ≡ b
label_same default a b h =
    let dir : a.dir ≡ b.dir = cc in
    let name : a.name ≡ b.name = cc in
    let key : toolchain_key default a.toolchain ≡ toolchain_key default b.toolchain = cc in
    let toolchain = key_same default a.toolchain b.toolchain key in
    λ i. record { dir = dir i; name = name i; toolchain = toolchain i }

-- of two labels one comes before the other, unless they are one
pub one_before : (default : List ℕ) (a b : Label) → (is_before default a b ≡ true) ⊎ ((a ≡ b) ⊎ (is_before default b a ≡ true))
one_before default a b = by (texts_cmp (order_key default a) (order_key default b)) refl
  where
    by : (r : Ordering) → texts_cmp (order_key default a) (order_key default b) ≡ r → (is_before default a b ≡ true) ⊎ ((a ≡ b) ⊎ (is_before default b a ≡ true))
    by Less e = inl (ap is_lt e)
    by Equal e = inr (inl (label_same default a b (texts_same _ _ e)))
    by Greater e = inr (inr (ap is_lt (texts_total.antisymm (order_key default b) (order_key default a) ∙ ap ordering_reverse e)))

-- keys of labels compare as labels do in label order
toolchains_ordered : (default s t : List ℕ) → option_cmp (slice_cmp nat_cmp) (other_than default s) (other_than default t) ≡ slice_cmp nat_cmp (toolchain_key default s) (toolchain_key default t)
toolchains_ordered default s t = by (bytes_eq s default) (bytes_eq t default)
  where
    by : (p q : Bool) → option_cmp (slice_cmp nat_cmp) (cond p None (Some s)) (cond q None (Some t)) ≡ slice_cmp nat_cmp (cond p [] (0 ∷ s)) (cond q [] (0 ∷ t))
    by true true = refl
    by true false = refl
    by false true = refl
    by false false = refl

pub keys_ordered : (default : List ℕ) (a b : Label) → cmp-value.it (key_of default a) (key_of default b) ≡ label_order default a b
keys_ordered default a b i =
    ordering_then (slice_cmp nat_cmp a.dir b.dir) (ordering_then (slice_cmp nat_cmp a.name b.name) ((toolchains_ordered default a.toolchain b.toolchain ∙ then_equal _) i))
