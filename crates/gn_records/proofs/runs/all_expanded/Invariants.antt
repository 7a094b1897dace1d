use Rattle.std.proofs.Common.{◌≡◌, map, take}
use Rattle.gn_substs.specs.Expansions.{expanded}
use Rattle.gn_records.proofs.runs.all_expanded.Given as goal

abbrev pub invariant-loop-text : goal.invariant-loop-text
invariant-loop-text l = l.list.items ≡ map (expanded l.given) (take l.text-index l.texts)
