use Rattle.gn_judging.specs.Judging.{IsFirstBelow}
use Rattle.gn_judging.proofs.judging.first_fault.Given as goal

abbrev pub invariant-loop-number : goal.invariant-loop-number
invariant-loop-number l = IsFirstBelow l.book l.number l.first
