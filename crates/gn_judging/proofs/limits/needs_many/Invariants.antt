use Rattle.gn_book.specs.Keys.{layer_at}
use Rattle.gn_book.specs.Logs.{state_of}
use Rattle.gn_judging.specs.Limits.{AreFound}
use Rattle.gn_judging.proofs.limits.needs_many.Given as goal

abbrev pub invariant-loop-at : goal.invariant-loop-at
invariant-loop-at l = AreFound (state_of l.book).filed (layer_at l.when l.toolchain) l.path l.paths.keys l.at
