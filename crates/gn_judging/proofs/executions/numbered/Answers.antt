use Rattle.gn_judging.proofs.ExecutionLemmas.{put_number}
use Rattle.gn_judging.proofs.executions.numbered.Goals as goal

pub loop-number-preserved : goal.loop-number-preserved
loop-number-preserved c = put_number c.args.default.now c.args.book.now c.loop-number.number _ c.loop-number.entries.items _ c.key.ensures c.in_ok-put.ensures c.loop-number.invariant
