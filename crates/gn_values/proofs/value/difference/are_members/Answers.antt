use Rattle.std.proofs.Common.{sym, map}
use Rattle.gn_values.specs.Operators.{is_among}
use Rattle.gn_values.specs.View.{val_of}
use Rattle.gn_values.proofs.Among.{not_all_at, all_more}
use Rattle.gn_values.proofs.value.difference.are_members.Goals as goal

pub returns-then-not-is_member : goal.returns-then-not-is_member
returns-then-not-is_member c =
    sym (not_all_at val_of (λ w. is_among w (map val_of c.args.others.now)) _ _ _ c.loop-value-test.true c.value-item.is (sym c.if-not-is_member.ensures))

pub loop-value-preserved : goal.loop-value-preserved
loop-value-preserved c =
    all_more val_of (λ w. is_among w (map val_of c.args.others.now)) _ _ _ c.loop-value-test.true c.value-item.is c.loop-value.invariant (sym c.if-not-is_member.ensures)
