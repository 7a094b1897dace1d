use Rattle.std.proofs.Common.{◌≡◌, ℕ, suc, ◌-◌, length}
use Rattle.gn_graph.specs.Clauses.{waits_at}
use Rattle.gn_graph.proofs.clause.make_room.Given as goal

abbrev pub invariant-loop-n : goal.invariant-loop-n
invariant-loop-n l = record {
  at : l.n ≡ length l.uses.items;
  same : (q : ℕ) → waits_at l.uses q ≡ waits_at l.initial.uses q;
}

abbrev pub decreases-loop-n : goal.decreases-loop-n
decreases-loop-n l = suc l.p - l.n
