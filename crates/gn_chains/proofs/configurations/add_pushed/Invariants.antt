use Rattle.std.proofs.Common.{◌≡◌, drop}
use Rattle.std.specs.List.{flat_map}
use Rattle.gn_dependencies.specs.Lists.{added}
use Rattle.gn_chains.proofs.configurations.add_pushed.Given as goal

abbrev pub invariant-loop-label : goal.invariant-loop-label
invariant-loop-label g l = added l.initial.out (flat_map (g.G.Graph.records l.graph).pushed l.labels) ≡ added l.out (flat_map (g.G.Graph.records l.graph).pushed (drop l.label-index l.labels))
