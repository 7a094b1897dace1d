use Rattle.std.proofs.Common.{arith}
use Rattle.gn_writing.specs.Outputs.{values_of}
use Rattle.gn_records.specs.Expanding.{given_by}
use Rattle.gn_tool_texts.specs.Texts.{faults_where_used}
use Rattle.gn_tool_texts.proofs.LeastLemmas.{least_more}
use Rattle.gn_tool_texts.proofs.texts.fault_among.Goals as goal

pub loop-text-preserved : goal.loop-text-preserved
loop-text-preserved c =
    grind (arith, least_more (faults_where_used (values_of c.args.by.now.names.now) (given_by c.args.by.now)) c.args.texts.now c.loop-text.text-index c.text-item.result)
