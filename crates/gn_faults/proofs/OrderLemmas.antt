-- The order of faults.
use Rattle.std.proofs.Common.{◌≡◌, ◌⊎◌, inl, inr, ℕ, true, false, refl, ap, ◌∙◌}
use Rattle.std.specs.declared.cmp.Ordering.{Ordering}
use Rattle.std.specs.declared.cmp.Ordering.TheVariants.{Less, Equal, Greater}
use Rattle.std.specs.declared.option.Option.{Option}
use Rattle.std.specs.declared.option.Option.TheVariants.{None, Some}
use Rattle.std.specs.Ordering.{is_lt, ordering_reverse}
use Rattle.std.specs.Option.{option_map, option_cmp}
use Rattle.std.specs.Cmp.{IsTotalOrder, nat_cmp_total, then_total, on_total, tied_itself}
use Rattle.std.specs.Cmp.Lexicographic.{lists_total, options_total, nat_list_cmp_total}
use Rattle.std.proofs.lemmas.Map.Lookups.{exact_unsigned, exact_bytes}
use Rattle.gn_basics.proofs.Orders.{both_equal, less_from_test, texts_same}
use Rattle.gn_paths.specs.declared.place.Place.{Place}
use Rattle.gn_faults.specs.declared.fault.Fault.{Fault}
use Rattle.gn_faults.specs.Numbers.{code_number, stage_number}
use Rattle.gn_faults.specs.Order.{text_cmp, file_of, position_of, position_cmp, fault_cmp, is_before}
use Rattle.gn_faults.proofs.NumberLemmas.{code_same, stage_same}

positions_total : IsTotalOrder position_cmp
positions_total = then_total (on_total (λ (p : ℕ × ℕ). p.0) nat_cmp_total) (on_total (λ (p : ℕ × ℕ). p.1) nat_cmp_total)

faults_total : IsTotalOrder fault_cmp
unfolding fault_cmp
faults_total =
    then_total (on_total (λ (f : Fault). stage_number f.stage) nat_cmp_total)
    (then_total (on_total file_of (options_total nat_list_cmp_total))
    (then_total (on_total (λ (f : Fault). f.toolchain) nat_list_cmp_total)
    (then_total (on_total position_of (options_total positions_total))
    (then_total (on_total (λ (f : Fault). code_number f.code) nat_cmp_total)
    (on_total (λ (f : Fault). f.detail) (lists_total nat_list_cmp_total))))))

position_same : (p q : ℕ × ℕ) → position_cmp p q ≡ Equal → p ≡ q
position_same p q e =
    let both = both_equal _ _ e in
    let line = exact_unsigned p.0 q.0 both.0 in
    let column = exact_unsigned p.1 q.1 both.1 in
    λ i. (line i, column i)

-- places of one file, line and column are one
place_same : (a b : Option Place) → option_cmp text_cmp (option_map (λ p. p.file) a) (option_map (λ p. p.file) b) ≡ Equal → option_cmp position_cmp (option_map (λ p. (p.line, p.column)) a) (option_map (λ p. (p.line, p.column)) b) ≡ Equal → a ≡ b
place_same None None e h = refl
place_same None (Some q) e h = cc
place_same (Some p) None e h = cc
place_same (Some p) (Some q) e h =
    let file = exact_bytes p.file q.file e in
    let position = position_same (p.line, p.column) (q.line, q.column) h in
    ap Some (λ i. record { file = file i; line = (position i).0; column = (position i).1 })

-- faults that no comparison tells apart are one
fault_same : (a b : Fault) → fault_cmp a b ≡ Equal → a ≡ b
unfolding fault_cmp
fault_same a b e =
    let e1 = both_equal _ _ e in
    let e2 = both_equal _ _ e1.1 in
    let e3 = both_equal _ _ e2.1 in
    let e4 = both_equal _ _ e3.1 in
    let e5 = both_equal _ _ e4.1 in
    let stage = stage_same a.stage b.stage (exact_unsigned _ _ e1.0) in
    let place = place_same a.place b.place e2.0 e4.0 in
    let toolchain = exact_bytes a.toolchain b.toolchain e3.0 in
    let code = code_same a.code b.code (exact_unsigned _ _ e5.0) in
    let detail = texts_same a.detail b.detail e5.1 in
    λ i. record { stage = stage i; place = place i; toolchain = toolchain i; code = code i; detail = detail i }

-- no fault comes before itself
pub before_itself : (a : Fault) → is_before a a ≡ false
before_itself a = ap is_lt (tied_itself faults_total a)

-- the order of faults is transitive
pub before_before : (a b c : Fault) → is_before a b ≡ true → is_before b c ≡ true → is_before a c ≡ true
before_before a b c h g = ap is_lt (faults_total.trans a b c (less_from_test _ h) (less_from_test _ g))

-- of two faults one comes before the other, unless they are one
pub one_before : (a b : Fault) → (is_before a b ≡ true) ⊎ ((a ≡ b) ⊎ (is_before b a ≡ true))
one_before a b = by (fault_cmp a b) refl
  where
    by : (r : Ordering) → fault_cmp a b ≡ r → (is_before a b ≡ true) ⊎ ((a ≡ b) ⊎ (is_before b a ≡ true))
    by Less e = inl (ap is_lt e)
    by Equal e = inr (inl (fault_same a b e))
    by Greater e = inr (inr (ap is_lt (faults_total.antisymm b a ∙ ap ordering_reverse e)))
