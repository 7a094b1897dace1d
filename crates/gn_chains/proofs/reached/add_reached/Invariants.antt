use Rattle.std.proofs.Common.{◌-◌, length}
use Rattle.gn_chains.proofs.ReachState.{ReachState}
use Rattle.gn_chains.proofs.reached.add_reached.Given as goal

abbrev pub invariant-loop-next : goal.invariant-loop-next
invariant-loop-next g l = ReachState (g.G.Graph.shape l.graph) l.target l.out l.next

abbrev pub decreases-loop-next : goal.decreases-loop-next
decreases-loop-next g l = length (g.G.Graph.all l.graph) - l.next
