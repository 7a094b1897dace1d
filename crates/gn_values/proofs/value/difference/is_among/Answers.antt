use Rattle.std.proofs.Common.{true, false, sym}
use Rattle.gn_values.specs.Equal.{equals}
use Rattle.gn_values.specs.View.{val_of}
use Rattle.gn_values.proofs.Among.{any_at, any_more}
use Rattle.gn_value_model.proofs.Equality.{test_from_answer}
use Rattle.gn_values.proofs.value.difference.is_among.Goals as goal

pub returns-then-same : goal.returns-then-same
returns-then-same c =
    let same = test_from_answer _ _ true c.if-same.ensures in
    sym (any_at val_of (equals (val_of c.args.value.now)) _ _ _ c.loop-other-test.true c.other-item.is (sym same))

pub loop-other-preserved : goal.loop-other-preserved
loop-other-preserved c =
    let same = test_from_answer _ _ false c.if-same.ensures in
    any_more val_of (equals (val_of c.args.value.now)) _ _ _ c.loop-other-test.true c.other-item.is c.loop-other.invariant (sym same)
