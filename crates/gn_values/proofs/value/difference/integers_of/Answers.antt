use Rattle.std.proofs.Common.{ap, ◌∙◌, rules}
use Rattle.gn_values.specs.Val.{vint}
use Rattle.gn_values.specs.View.{val_of}
use Rattle.gn_values.proofs.Members.{no_integer, integer_more, other_than_integer}
use Rattle.gn_values.proofs.value.difference.integers_of.Goals as goal

pub loop-value-preserved-in_default : goal.loop-value-preserved-in_default
loop-value-preserved-in_default c =
    no_integer c.args.values.now _ _ c.loop-value-test.true c.value-item.is _ (other_than_integer _ c.in_default.not-Int) c.loop-value.invariant

pub loop-value-preserved : goal.loop-value-preserved
loop-value-preserved c =
    integer_more c.args.values.now _ _ c.loop-value-test.true c.value-item.is _ _ _ c.in_ok-insert.ensures.updates (ap val_of c.in-Int.is ∙ ap vint (search rules)) c.loop-value.invariant
