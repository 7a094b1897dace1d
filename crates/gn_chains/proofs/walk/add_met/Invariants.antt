use Rattle.std.proofs.Common.{◌≡◌, drop}
use Rattle.gn_dependencies.specs.Lists.{added}
use Rattle.gn_chains.specs.Walking.{met}
use Rattle.gn_chains.proofs.walk.add_met.Given as goal

abbrev pub invariant-loop-label : goal.invariant-loop-label
invariant-loop-label g l = added l.initial.out (met l.walk (g.G.Graph.shape l.graph) l.labels) ≡ added l.out (met l.walk (g.G.Graph.shape l.graph) (drop l.label-index l.labels))
