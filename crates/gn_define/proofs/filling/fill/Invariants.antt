use Rattle.std.proofs.Common.{◌≡◌, [], drop}
use Rattle.gn_define.specs.Fields.{filled, entries_of}
use Rattle.gn_define.proofs.filling.fill.Given as goal

abbrev pub invariant-loop-row : goal.invariant-loop-row
invariant-loop-row g l =
    filled l.fn.place (g.B.Block.values l.fn.block) (entries_of l.entries.items) (drop l.row-index l.rows) ≡ filled l.fn.place (g.B.Block.values l.fn.block) [] l.rows
