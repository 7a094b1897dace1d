use Rattle.std.proofs.Common.{◌≡◌, true, take}
use Rattle.gn_graph.specs.Clauses.{has, horns}
use Rattle.gn_graph.specs.Plans.{FiredAll}
use Rattle.gn_graph.proofs.consequences.fire_users.Given as goal

abbrev pub invariant-loop-i : goal.invariant-loop-i
invariant-loop-i l = FiredAll (horns l.clauses) (λ i. has (take l.i-index l.list) i ≡ true) l.initial.held l.held
