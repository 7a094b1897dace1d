use Rattle.gn_cycles.specs.Settled.{AreSettled}
use Rattle.gn_cycles.proofs.settling.settled.Given as goal

abbrev pub invariant-loop-label : goal.invariant-loop-label
invariant-loop-label g l = AreSettled (g.G.Graph.shape l.graph) l.settled
