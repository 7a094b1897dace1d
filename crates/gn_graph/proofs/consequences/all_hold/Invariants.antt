use Rattle.std.proofs.Common.{take}
use Rattle.gn_graph.specs.Plans.{AllIn}
use Rattle.gn_graph.proofs.consequences.all_hold.Given as goal

abbrev pub invariant-loop-p : goal.invariant-loop-p
invariant-loop-p l = AllIn l.held (take l.p-index l.needs)
