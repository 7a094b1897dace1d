use Rattle.std.proofs.Common.{◌≡◌, drop}
use Rattle.gn_rows.specs.Names.{first_named}
use Rattle.gn_rows.proofs.kinds.first_named.Given as goal

abbrev pub invariant-loop-tool : goal.invariant-loop-tool
invariant-loop-tool l = first_named (drop l.tool-index l.tools) l.name ≡ first_named l.tools l.name
