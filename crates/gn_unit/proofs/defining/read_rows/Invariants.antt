use Rattle.std.proofs.Common.{◌≡◌, drop}
use Rattle.gn_meaning.specs.Items.{rows_read}
use Rattle.gn_unit.proofs.defining.read_rows.Given as goal

abbrev pub invariant-loop-row : goal.invariant-loop-row
invariant-loop-row l = rows_read (drop l.row-index l.rows) l.env ≡ rows_read l.rows l.initial.env
