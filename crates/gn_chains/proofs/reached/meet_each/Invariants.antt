use Rattle.std.proofs.Common.{take}
use Rattle.gn_chains.specs.Reached.{IsMore}
use Rattle.gn_chains.proofs.reached.meet_each.Given as goal

abbrev pub invariant-loop-label : goal.invariant-loop-label
invariant-loop-label g l = IsMore (g.G.Graph.shape l.graph) (take l.label-index l.labels) l.initial.out l.out
