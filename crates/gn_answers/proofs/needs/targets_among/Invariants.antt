use Rattle.std.proofs.Common.{◌≡◌, ◌++◌, map, drop}
use Rattle.std.specs.List.{flat_map}
use Rattle.gn_graph.specs.Needs.{target_of}
use Rattle.gn_projects.specs.Needs.{target_in}
use Rattle.gn_answers.proofs.needs.targets_among.Given as goal

abbrev pub invariant-loop-item : goal.invariant-loop-item
invariant-loop-item l = flat_map target_in l.items ≡ map target_of l.targets.items ++ flat_map target_in (drop l.item-index l.items)
