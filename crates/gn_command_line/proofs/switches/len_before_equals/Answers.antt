use Rattle.std.proofs.Common.{sym, arith, ◌==◌}
use Rattle.std.proofs.lemmas.Bool.Decides.{Decides-eqb}
use Rattle.std.proofs.lemmas.List.Sums.{position_or_len_is}
use Rattle.gn_command_line.proofs.switches.len_before_equals.Goals as goal

pub returns-then-here-eq61-clause-value : goal.returns-then-here-eq61-clause-value
returns-then-here-eq61-clause-value c =
    sym (position_or_len_is (λ b. b == 61) c.args.text.now c.loop-i.i 0 (omega arith) c.loop-i.invariant (λ _. (Decides-eqb _ 61).1 c.if-here-eq61.true))

pub returns-clause-value : goal.returns-clause-value
returns-clause-value c =
    sym (position_or_len_is (λ b. b == 61) c.args.text.now _ 0 (omega arith) (λ k l. c.loop-i.invariant k (omega arith)) (λ l. absurd (omega arith)))
