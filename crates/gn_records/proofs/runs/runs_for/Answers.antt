use Rattle.gn_records.specs.Around.{around}
use Rattle.gn_records.specs.Actions.{run_for}
use Rattle.gn_records.proofs.Loops.{mapped_more, mapped_all}
use Rattle.gn_records.proofs.runs.runs_for.Goals as goal

pub loop-source-init : goal.loop-source-init
loop-source-init c = c.in_ok-runs.ensures.items

pub loop-source-preserved : goal.loop-source-preserved
loop-source-preserved c =
    mapped_more (run_for (around c.args.context.now) c.args.item.now) c.args.sources.now c.loop-source.source-index c.source-item.result _ _ c.loop-source-test.true c.source-item.is c.loop-source.invariant c.in_ok-push_run.ensures

pub returns : goal.returns
returns c =
    mapped_all (run_for (around c.args.context.now) c.args.item.now) c.args.sources.now c.loop-source.source-index _ _ c.loop-source-test.false c.loop-source.invariant c.from_vec.ensures
