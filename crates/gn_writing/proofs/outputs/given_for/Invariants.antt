use Rattle.std.proofs.Common.{◌≡◌, map, take}
use Rattle.gn_writing.specs.Outputs.{values_of, name_text}
use Rattle.gn_writing.proofs.outputs.given_for.Given as goal

abbrev pub invariant-loop-substitution : goal.invariant-loop-substitution
invariant-loop-substitution l = l.texts.items ≡ map (name_text l.position (values_of l.names) l.given) (take l.substitution-index l.substitutions)
