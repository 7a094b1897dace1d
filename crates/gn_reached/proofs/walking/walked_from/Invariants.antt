use Rattle.std.proofs.Common.{◌-◌, length}
use Rattle.gn_reached.proofs.State.{ReachState, lead}
use Rattle.gn_reached.proofs.walking.walked_from.Given as goal

abbrev pub invariant-loop-next : goal.invariant-loop-next
invariant-loop-next g l = ReachState (g.G.Graph.shape l.graph) l.targets l.out l.next

abbrev pub decreases-loop-next : goal.decreases-loop-next
decreases-loop-next g l = length (lead (g.G.Graph.shape l.graph) l.targets (g.G.Graph.all l.graph)) - l.next
