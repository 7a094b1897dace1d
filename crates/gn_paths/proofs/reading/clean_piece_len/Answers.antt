use Rattle.std.proofs.Common.{◌≡◌, length, take, drop, Some, sym, ap, ◌∙◌, arith, ne_eqb, inl, inr}
use Rattle.std.specs.List.{position_or_len}
use Rattle.std.proofs.lemmas.List.Sums.{position_or_len_is}
use Rattle.gn_paths.specs.Components.{is_slash}
use Rattle.gn_paths.specs.Reading.{is_clean, is_clean_from}
use Rattle.gn_paths.proofs.CleanLemmas.{clean_fails}
use Rattle.gn_paths.proofs.ReadingLemmas.{is_clean_from-start, from_slash, from_end, from_next, from_bad, none_before}
use Rattle.gn_paths.proofs.reading.clean_piece_len.Goals as goal

pub loop-i-init : goal.loop-i-init
loop-i-init c = (λ k l. absurd (omega arith), rw c.between-pending.ensures (is_clean_from-start c.args.text.now))

pub loop-i-preserved : goal.loop-i-preserved
loop-i-preserved c =
    let e = ne_eqb _ 47 c.if-byte-eq47.false in
    (none_before c.args.text.now c.loop-i.i c.loop-i.invariant.0 e, from_next c.loop-i.pending _ c.args.text.now c.loop-i.i (omega arith) e (sym c.if-not-is_path_byte.ensures) (sym c.in_ok-pending.ensures) ∙ c.loop-i.invariant.1)

pub returns-then-is_done : goal.returns-then-is_done
returns-then-is_done c =
    let t = c.args.text.now in
    let i = c.loop-i.i in
    let at : position_or_len is_slash t ≡ i = position_or_len_is is_slash t i 0 (omega arith) c.loop-i.invariant.0 (λ _. ap is_slash c.if-byte-eq47.true) in
    (sym at, omega arith, ap (λ n. is_clean (take n t)) (sym at) ∙ sym c.loop-i.invariant.1 ∙ from_slash c.loop-i.pending t i (omega arith) (ap is_slash c.if-byte-eq47.true) ∙ sym c.if-is_done.ensures)

pub returns-else-is_done : goal.returns-else-is_done
returns-else-is_done c =
    clean_fails c.args.text.now (sym c.loop-i.invariant.1 ∙ from_slash c.loop-i.pending c.args.text.now c.loop-i.i (omega arith) (ap is_slash c.if-byte-eq47.true) ∙ sym c.if-is_done.ensures)

pub returns-then-not-is_path_byte : goal.returns-then-not-is_path_byte
returns-then-not-is_path_byte c =
    clean_fails c.args.text.now (sym c.loop-i.invariant.1 ∙ from_bad c.loop-i.pending c.args.text.now c.loop-i.i (omega arith) (ne_eqb _ 47 c.if-byte-eq47.false) (inl (sym c.if-not-is_path_byte.ensures)))

pub returns-in_err-pending : goal.returns-in_err-pending
returns-in_err-pending c =
    rw c.from_residual.ensures
    (clean_fails c.args.text.now (sym c.loop-i.invariant.1 ∙ from_bad c.loop-i.pending c.args.text.now c.loop-i.i (omega arith) (ne_eqb _ 47 c.if-byte-eq47.false) (inr (sym c.in_err-pending.ensures))))

pub returns-then-is_done-2 : goal.returns-then-is_done-2
returns-then-is_done-2 c =
    let t = c.args.text.now in
    let at : position_or_len is_slash t ≡ length t = position_or_len_is is_slash t (length t) 0 (omega arith) (λ k l. c.loop-i.invariant.0 k (omega arith)) (λ l. absurd (omega arith)) in
    let all : c.loop-i.i ≡ length t = omega arith in
    (sym at, omega arith, ap (λ n. is_clean (take n t)) (sym at) ∙ sym c.loop-i.invariant.1 ∙ ap (λ n. is_clean_from (Some c.loop-i.pending) (drop n t)) all ∙ from_end c.loop-i.pending t ∙ sym c.if-is_done-2.ensures)

pub returns-else-is_done-2 : goal.returns-else-is_done-2
returns-else-is_done-2 c =
    let t = c.args.text.now in
    let all : c.loop-i.i ≡ length t = omega arith in
    clean_fails t (sym c.loop-i.invariant.1 ∙ ap (λ n. is_clean_from (Some c.loop-i.pending) (drop n t)) all ∙ from_end c.loop-i.pending t ∙ sym c.if-is_done-2.ensures)
