use Rattle.std.proofs.Common.{length, ◌-◌}
use Rattle.gn_core.specs.Layered.{IsPart}
use Rattle.gn_book.specs.Logs.{state_of}
use Rattle.gn_prepared.specs.Copies.{answers_of}
use Rattle.gn_prepared.proofs.copies.Copies.extend.Given as goal

abbrev pub invariant-events : goal.invariant-events
invariant-events l = IsPart (answers_of l.fn.self) (state_of l.fn.book).filed → IsPart (answers_of l.self) (state_of l.fn.book).filed

abbrev pub decreases-events : goal.decreases-events
decreases-events l = length l.events - l.next
