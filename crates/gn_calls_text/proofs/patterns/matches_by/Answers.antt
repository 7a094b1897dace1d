use Rattle.std.proofs.Common.{arith}
use Rattle.gn_calls_text.proofs.RowLemmas.{row_begins, row_more}
use Rattle.gn_calls_text.proofs.patterns.matches_by.Goals as goal

pub loop-place-init : goal.loop-place-init
loop-place-init c = row_begins c.args.parts.now c.args.text.now c.end_row.new.row c.end_row.ensures

pub loop-place-preserved : goal.loop-place-preserved
loop-place-preserved c =
    let within = c.loop-place.invariant.0 in
    (omega arith, row_more c.args.parts.now c.args.text.now c.loop-place.place c.loop-place.row c.step_row.new.row c.loop-place-test.true within c.loop-place.invariant.1 c.step_row.ensures)
