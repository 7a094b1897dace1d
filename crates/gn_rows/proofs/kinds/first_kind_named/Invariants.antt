use Rattle.std.proofs.Common.{◌≡◌, drop}
use Rattle.gn_rows.specs.Names.{first_kind_named}
use Rattle.gn_rows.proofs.kinds.first_kind_named.Given as goal

abbrev pub invariant-loop-kind : goal.invariant-loop-kind
invariant-loop-kind l = first_kind_named (drop l.kind-index l.kinds) l.name ≡ first_kind_named l.kinds l.name
