use Rattle.std.proofs.Common.{◌≡◌, ℕ, List, []}
use Rattle.gn_outside.specs.States.{SourceState}
use Rattle.gn_core.specs.Layered.{IsPart}
use Rattle.gn_book.specs.Logs.{state_of}
use Rattle.gn_builds.specs.Driving.{units_left}
use Rattle.gn_prepared.specs.Copies.{answers_of}
use Rattle.gn_load.specs.Ahead.{GoesAhead}
use Rattle.gn_load.specs.Rounds.{IsDrivingAhead}
use Rattle.gn_load.proofs.ahead.drive.Given as goal

abbrev pub invariant-units : goal.invariant-units
invariant-units g l = record {
  on : (known : List (List ℕ)) (before : SourceState) → GoesAhead known before (g.S.Source.state l.fn.source) l.fn.driver [] l.fn.ahead.total
      → IsDrivingAhead known before (g.S.Source.state l.source) l.driver l.units l.ahead.total l.next × (l.driver.base.start ≡ l.fn.driver.base.start);
  copied : IsPart (answers_of l.copies) (state_of l.driver.book).filed;
}

abbrev pub decreases-units : goal.decreases-units
decreases-units g l = units_left l.driver.book
