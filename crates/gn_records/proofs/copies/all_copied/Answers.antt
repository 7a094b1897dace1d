use Rattle.gn_records.specs.Around.{around}
use Rattle.gn_records.specs.Plain.{copied}
use Rattle.gn_records.proofs.Loops.{mapped_more, mapped_all}
use Rattle.gn_records.proofs.copies.all_copied.Goals as goal

pub loop-source-init : goal.loop-source-init
loop-source-init c = c.in_ok-files.ensures.items

pub loop-source-preserved : goal.loop-source-preserved
loop-source-preserved c =
    mapped_more (copied (around c.args.context.now) c.args.item.now) c.args.sources.now c.loop-source.source-index c.source-item.result _ _ c.loop-source-test.true c.source-item.is c.loop-source.invariant c.in_ok-push_copied.ensures

pub returns : goal.returns
returns c =
    mapped_all (copied (around c.args.context.now) c.args.item.now) c.args.sources.now c.loop-source.source-index _ _ c.loop-source-test.false c.loop-source.invariant c.from_vec.ensures
