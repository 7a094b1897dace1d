use Rattle.gn_dependencies.specs.Shape.{Shape}
use Rattle.gn_chains.specs.Numbers.{lists_in}
use Rattle.gn_chains.specs.Reached.{AreNodes}
use Rattle.gn_chains.proofs.Numbering.{EdgesBefore}
use Rattle.gn_chains.proofs.edges.edges.Given as goal

abbrev pub invariant-loop-node : goal.invariant-loop-node
invariant-loop-node l = (g : Shape) → AreNodes g l.walked l.nodes → EdgesBefore g l.walked l.node-index (lists_in l.edges.items)
