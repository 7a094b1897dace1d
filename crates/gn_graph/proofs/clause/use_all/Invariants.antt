use Rattle.std.proofs.Common.{◌≡◌, ℕ, take, true, false}
use Rattle.gn_graph.specs.Clauses.{has, waits_at}
use Rattle.gn_graph.specs.States.{AreKept}
use Rattle.gn_graph.proofs.clause.use_all.Given as goal

abbrev pub invariant-loop-p : goal.invariant-loop-p
invariant-loop-p l = record {
  kept : AreKept (waits_at l.initial.uses) (waits_at l.uses);
  added : (q : ℕ) → has (take l.p-index l.needs) q ≡ true → has (take l.n l.held) q ≡ false → has (waits_at l.uses q) l.i ≡ true;
}
