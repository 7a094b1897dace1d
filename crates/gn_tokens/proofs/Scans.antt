-- Scans over bytes, a byte at a time.
use Rattle.std.proofs.Common.{◌≡◌, ℕ, ◌+◌, ◌*◌, ◌-◌, ◌<◌, ◌≤◌, ◌/◌, ◌^◌, Bool, true, false, not, ◌&&◌, ◌==◌, List, [], ◌∷◌, length, drop, get_or, Option, Some, None, refl, sym, ◌∙◌, ap, arith}
use Rattle.gn_basics.proofs.Lists.{drop_here}
use Rattle.gn_tokens.specs.Bytes.{is_escapable}
use Rattle.gn_tokens.specs.Number.{decimal_from, decimal}
use Rattle.gn_tokens.specs.Text.{first_bad, further, expands, is_stop}

pub decimal_from-le : (n : ℕ) (ds : List ℕ) → n ≤ decimal_from n ds
decimal_from-le n [] = omega arith
decimal_from-le n (d ∷ ds) = omega (arith, decimal_from-le (n * 10 + (d - 48)) ds)

further_one : (n : ℕ) (x : Option ℕ) → further n (further 1 x) ≡ further (n + 1) x
further_one n None = refl
further_one n (Some i) = ap Some (omega arith)

-- A digit more makes a number too great.
above : (n d : ℕ) (ds : List ℕ) → (2 ^ 63 - d) / 10 < n → 2 ^ 63 < decimal_from (n * 10 + d) ds
above n d ds h = omega (arith, decimal_from-le (n * 10 + d) ds)

pub too_great : (n i d : ℕ) (s : List ℕ) → i < length s → d ≡ get_or s i 0 - 48 → (2 ^ 63 - d) / 10 < n → decimal_from n (drop i s) ≡ decimal s → 2 ^ 63 < decimal s
too_great n i d s lt e big same =
    let step : decimal_from n (get_or s i 0 ∷ drop (i + 1) s) ≡ decimal s = sym (ap (decimal_from n) (drop_here s i 0 lt)) ∙ same in
    let high : 2 ^ 63 < decimal_from (n * 10 + d) (drop (i + 1) s) = above n d (drop (i + 1) s) big in
    let e2 : decimal_from (n * 10 + d) (drop (i + 1) s) ≡ decimal_from (n * 10 + (get_or s i 0 - 48)) (drop (i + 1) s) = ap (λ x. decimal_from (n * 10 + x) (drop (i + 1) s)) e in
    omega (arith, high, e2, step)

-- One byte further in a string.
pub bad_escaped : (s : List ℕ) (i : ℕ) (e e2 test : Bool) → i < length s → test ≡ (e && is_escapable (get_or s i 0)) → test ≡ true → e2 ≡ false →
    further i (first_bad e (drop i s)) ≡ first_bad false s → further (i + 1) (first_bad e2 (drop (i + 1) s)) ≡ first_bad false s
bad_escaped s i e e2 test lt t held is h =
    let both : (e && is_escapable (get_or s i 0)) ≡ true = sym t ∙ held in
    let here : first_bad e (drop i s) ≡ further 1 (first_bad false (drop (i + 1) s)) = rw (drop_here s i 0 lt) (rw both refl) in
    ap (λ x. further (i + 1) (first_bad x (drop (i + 1) s))) is ∙ sym (further_one i (first_bad false (drop (i + 1) s))) ∙ sym (ap (further i) here) ∙ h

pub bad_plain : (s : List ℕ) (i : ℕ) (e e2 test stop bad : Bool) (rest : List ℕ) → i < length s → test ≡ (e && is_escapable (get_or s i 0)) → test ≡ false →
    stop ≡ is_stop (get_or s i 0) → stop ≡ false →
    rest ≡ drop (i + 1) s → bad ≡ (get_or s i 0 == 36 && not (expands rest)) → bad ≡ false → e2 ≡ (get_or s i 0 == 92) →
    further i (first_bad e (drop i s)) ≡ first_bad false s → further (i + 1) (first_bad e2 (drop (i + 1) s)) ≡ first_bad false s
bad_plain s i e e2 test stop bad rest lt t failed st open_still r b fine is h =
    let none : (e && is_escapable (get_or s i 0)) ≡ false = sym t ∙ failed in
    let inside : is_stop (get_or s i 0) ≡ false = sym st ∙ open_still in
    let good : (get_or s i 0 == 36 && not (expands (drop (i + 1) s))) ≡ false = ap (λ x. get_or s i 0 == 36 && not (expands x)) (sym r) ∙ sym b ∙ fine in
    let here : first_bad e (drop i s) ≡ further 1 (first_bad (get_or s i 0 == 92) (drop (i + 1) s)) = rw (drop_here s i 0 lt) (rw none (rw inside (rw good refl))) in
    ap (λ x. further (i + 1) (first_bad x (drop (i + 1) s))) is ∙ sym (further_one i (first_bad (get_or s i 0 == 92) (drop (i + 1) s))) ∙ sym (ap (further i) here) ∙ h
