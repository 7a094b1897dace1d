use Rattle.std.proofs.Common.{◌≡◌, drop}
use Rattle.gn_resolve.specs.Table.{nothing_inherited, with_libraries}
use Rattle.gn_resolve.proofs.libraries.taken.Given as goal

abbrev pub invariant-loop-label : goal.invariant-loop-label
invariant-loop-label l = with_libraries l.graph.items l.graph.records nothing_inherited l.labels ≡ with_libraries l.graph.items l.graph.records l.out (drop l.label-index l.labels)
