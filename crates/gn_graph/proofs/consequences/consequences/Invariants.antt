use Rattle.std.proofs.Common.{◌+◌, ◌-◌, ◌≤◌, length}
use Rattle.gn_graph.specs.Clauses.{horns}
use Rattle.gn_graph.specs.Plans.{Plan}
use Rattle.gn_graph.proofs.consequences.consequences.Given as goal

abbrev pub invariant-loop-k : goal.invariant-loop-k
invariant-loop-k l = record {
  plan : Plan (horns l.clauses) l.initial.held l.held l.k;
  begun : l.start ≤ l.k;
}

abbrev pub decreases-loop-k : goal.decreases-loop-k
decreases-loop-k l = length l.initial.held + length l.clauses - l.k
