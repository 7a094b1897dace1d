use Rattle.std.proofs.Common.{sym, arith, ap}
use Rattle.std.proofs.lemmas.List.Sums.{position_or_len_is}
use Rattle.gn_paths.specs.Components.{is_slash}
use Rattle.gn_paths.proofs.components.piece_len.Goals as goal

pub returns-then-byte-eq47-clause-value : goal.returns-then-byte-eq47-clause-value
returns-then-byte-eq47-clause-value c =
    sym (position_or_len_is is_slash c.args.text.now c.loop-i.i 0 (omega arith) c.loop-i.invariant (λ _. ap is_slash c.if-byte-eq47.true))

pub returns-clause-value : goal.returns-clause-value
returns-clause-value c =
    sym (position_or_len_is is_slash c.args.text.now _ 0 (omega arith) (λ k l. c.loop-i.invariant k (omega arith)) (λ l. absurd (omega arith)))
