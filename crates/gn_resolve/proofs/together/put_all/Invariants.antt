use Rattle.gn_resolve.specs.Putting.{TakesAll}
use Rattle.gn_resolve.proofs.together.put_all.Given as goal

abbrev pub invariant-loop-one : goal.invariant-loop-one
invariant-loop-one l = TakesAll l.initial.records l.records l.yielded
