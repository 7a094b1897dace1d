use Rattle.std.proofs.Common.{sym}
use Rattle.std.proofs.lemmas.List.{append-nil}
use Rattle.gn_writing.specs.Outputs.{values_of}
use Rattle.gn_records.specs.Around.{around}
use Rattle.gn_records.specs.Compiled.{units_for, objects_for}
use Rattle.gn_records.proofs.Loops.{joined_more, joined_all}
use Rattle.gn_records.proofs.sources.add_sources.Goals as goal

pub loop-source-init : goal.loop-source-init
loop-source-init c = (sym (append-nil c.args.units.now.items), sym (append-nil c.args.objects.now))

pub loop-source-preserved : goal.loop-source-preserved
loop-source-preserved c = (
  joined_more (units_for (around c.args.context.now) c.args.item.now (values_of c.args.names.now)) c.args.sources.now c.loop-source.source-index c.source-item.result _ _ _ c.loop-source-test.true c.source-item.is c.loop-source.invariant.0 c.in_ok-add_source.ensures.units,
  joined_more (objects_for (around c.args.context.now) c.args.item.now (values_of c.args.names.now)) c.args.sources.now c.loop-source.source-index c.source-item.result _ _ _ c.loop-source-test.true c.source-item.is c.loop-source.invariant.1 c.in_ok-add_source.ensures.objects,
)

pub returns-clause-units : goal.returns-clause-units
returns-clause-units c =
    joined_all (units_for (around c.args.context.now) c.args.item.now (values_of c.args.names.now)) c.args.sources.now c.loop-source.source-index _ _ c.loop-source-test.false c.loop-source.invariant.0

pub returns-clause-objects : goal.returns-clause-objects
returns-clause-objects c =
    joined_all (objects_for (around c.args.context.now) c.args.item.now (values_of c.args.names.now)) c.args.sources.now c.loop-source.source-index _ _ c.loop-source-test.false c.loop-source.invariant.1
