use Rattle.std.proofs.Common.{◌≡◌, drop}
use Rattle.gn_functions.specs.Rows.{first_named}
use Rattle.gn_functions.proofs.function.first_named.Given as goal

abbrev pub invariant-loop-called : goal.invariant-loop-called
invariant-loop-called g l = first_named (drop l.called-index l.rows) l.name l.otherwise ≡ first_named l.rows l.name l.otherwise
