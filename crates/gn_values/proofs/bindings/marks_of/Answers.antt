use Rattle.std.proofs.Common.{arith}
use Rattle.gn_values.proofs.Marked.{marked_more}
use Rattle.gn_values.proofs.bindings.marks_of.Goals as goal

pub loop-entry-preserved : goal.loop-entry-preserved
loop-entry-preserved c =
    marked_more _ _ c.with-marks.ensures.keeps c.args.entries.now c.loop-entry.entry-index c.entry-item.result (omega arith) c.entry-item.is
    (rw (← c.as_bytes.ensures) c.with-marks.ensures.itself)
    c.loop-entry.invariant
