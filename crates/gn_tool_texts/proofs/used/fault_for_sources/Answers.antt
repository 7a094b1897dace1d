use Rattle.std.proofs.Common.{arith}
use Rattle.gn_writing.specs.Outputs.{values_of}
use Rattle.gn_records.specs.Around.{around}
use Rattle.gn_tool_texts.specs.Used.{faults_for_source}
use Rattle.gn_tool_texts.proofs.LeastLemmas.{least_more}
use Rattle.gn_tool_texts.proofs.used.fault_for_sources.Goals as goal

pub loop-source-preserved : goal.loop-source-preserved
loop-source-preserved c =
    grind (arith, least_more (faults_for_source (around c.args.context.now) c.args.item.now (values_of c.args.names.now)) c.args.sources.now c.loop-source.source-index c.source-item.result)
