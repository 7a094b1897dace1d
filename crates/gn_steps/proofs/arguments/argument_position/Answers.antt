use Rattle.std.proofs.Common.{sym, ◌∙◌, arith}
use Rattle.gn_steps.proofs.Positions.{position_at, position_past}
use Rattle.gn_steps.proofs.arguments.argument_position.Goals as goal

pub returns-then-number-arguments : goal.returns-then-number-arguments
returns-then-number-arguments c =
    rw (sym c.as_slice-arguments.ensures.exprs) (sym (position_past c.as_slice-arguments.result.now c.args.number c.args.call.now.position (omega (arith, c.if-number-arguments.true))))

pub returns : goal.returns
returns c =
    rw (sym c.as_slice-arguments.ensures.exprs)
    (c.first_position.ensures ∙ sym (position_at c.as_slice-arguments.result.now c.args.number c.index-arguments-number.result c.args.call.now.position (omega (arith, c.if-number-arguments.false)) c.index-arguments-number.is))
