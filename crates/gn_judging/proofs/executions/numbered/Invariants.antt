use Rattle.gn_judging.specs.Executions.{AreNumbered}
use Rattle.gn_judging.proofs.executions.numbered.Given as goal

abbrev pub invariant-loop-number : goal.invariant-loop-number
invariant-loop-number l = AreNumbered l.default l.book l.number l.entries.items
