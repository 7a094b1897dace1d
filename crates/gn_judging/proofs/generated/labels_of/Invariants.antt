use Rattle.gn_judging.specs.Generated.{AreFound}
use Rattle.gn_judging.proofs.generated.labels_of.Given as goal

abbrev pub invariant-loop-n : goal.invariant-loop-n
invariant-loop-n l = AreFound l.default l.graph.found l.n l.labels.items
