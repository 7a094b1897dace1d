use Rattle.std.proofs.Common.{rules, ◌≡◌, arith}
use Rattle.gn_tree.specs.Views.{expr_of}
use Rattle.gn_meaning.specs.Meaning.{operators_in}
use Rattle.gn_eval.specs.Operations.{IsOperand}
use Rattle.gn_eval.proofs.Joined.{operand_alone}
use Rattle.gn_eval.proofs.operations.+operators_in.Goals as goal

pub returns : goal.returns
returns t c =
    let h : IsOperand (expr_of c.left.rest.now) = search rules in
    let none : operators_in (expr_of c.left.rest.now) ≡ 0 = operand_alone _ h in
    omega (arith, c.left.invariant.counted, c.left.invariant.fits, none)
