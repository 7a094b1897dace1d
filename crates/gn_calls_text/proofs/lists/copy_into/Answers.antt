use Rattle.std.proofs.Common.{◌∙◌}
use Rattle.gn_calls_text.proofs.GrowthLemmas.{copied, copy_room}
use Rattle.gn_calls_text.proofs.lists.copy_into.Goals as goal

pub push_within-requires : goal.push_within-requires
push_within-requires c =
    copy_room c.args.values.now _ _ _ _ c.loop-value-test.true c.value-item.is c.in_ok-copy.ensures c.loop-value.invariant c.requires.fits

pub loop-value-preserved : goal.loop-value-preserved
loop-value-preserved c =
    c.in_ok-push_within.ensures ∙ copied c.args.values.now _ _ _ _ c.loop-value-test.true c.value-item.is c.in_ok-copy.ensures c.loop-value.invariant
