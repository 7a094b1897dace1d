use Rattle.gn_chains_tests.specs.Trees.{HoldsRecords}
use Rattle.gn_chains_tests.proofs.tree.Tree.resolve_all.Given as goal

abbrev pub invariant-loop-target : goal.invariant-loop-target
invariant-loop-target l = HoldsRecords l.self
