use Rattle.std.proofs.Common.{◌≡◌, ◌-◌, length}
use Rattle.gn_runs.specs.Runs.{Answers}
use Rattle.gn_meaning.specs.Meaning.{whole_block_runs}
use Rattle.gn_eval.specs.Library.{Includes, GoesOn}
use Rattle.gn_outermost.specs.Rests.{behind}
use Rattle.gn_outermost.proofs.halting.run_rest.Given as goal

abbrev pub invariant-rest : goal.invariant-rest
invariant-rest g l = record {
  runs : (a : Answers) → Includes (g.L.Library.state l.library).told a → whole_block_runs a (behind l.from l.block) l.fn.env l.fn.out ≡ whole_block_runs a (behind l.next l.block) l.env l.out;
  goes : GoesOn (g.L.Library.state l.fn.library) (g.L.Library.state l.library);
}

abbrev pub decreases-rest : goal.decreases-rest
decreases-rest g l = length l.statements - l.next
