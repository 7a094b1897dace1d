use Rattle.std.proofs.Common.{◌≡◌, drop}
use Rattle.gn_substs.specs.Names.{substitution_name}
use Rattle.gn_substs.specs.Positions.{first_named}
use Rattle.gn_records.proofs.expanding.named.Given as goal

abbrev pub invariant-loop-name : goal.invariant-loop-name
invariant-loop-name l = first_named (drop l.name-index l.names) (substitution_name l.substitution) ≡ first_named l.names (substitution_name l.substitution)
