use Rattle.std.proofs.Common.{◌≡◌, drop}
use Rattle.std.specs.List.{flat_map}
use Rattle.gn_dependencies.specs.Lists.{added}
use Rattle.gn_resolve.specs.Table.{hard_along}
use Rattle.gn_resolve.proofs.hard.add_each.Given as goal

abbrev pub invariant-loop-label : goal.invariant-loop-label
invariant-loop-label l = added l.initial.out (flat_map (hard_along l.graph.items l.graph.records) l.labels) ≡ added l.out (flat_map (hard_along l.graph.items l.graph.records) (drop l.label-index l.labels))
