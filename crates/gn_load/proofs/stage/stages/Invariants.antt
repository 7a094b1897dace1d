use Rattle.std.proofs.Common.{◌-◌, ◌^◌, ℕ, List, []}
use Rattle.gn_outside.specs.States.{SourceState}
use Rattle.gn_core.specs.Layered.{IsPart}
use Rattle.gn_book.specs.Logs.{state_of}
use Rattle.gn_prepared.specs.Copies.{answers_of}
use Rattle.gn_load.specs.Ahead.{GoesAhead}
use Rattle.gn_load.specs.Rounds.{IsLookedAhead, AreUnderway}
use Rattle.gn_load.proofs.stage.stages.Given as goal

abbrev pub invariant-stages : goal.invariant-stages
invariant-stages g l = record {
  on : (known : List (List ℕ)) (before : SourceState) → GoesAhead known before (g.S.Source.state l.fn.source) l.fn.driver [] l.fn.ahead.total
      → IsLookedAhead known before (g.S.Source.state l.source) l.fn.driver l.driver l.units l.ahead.total;
  copied : IsPart (answers_of l.copies) (state_of l.driver.book).filed;
  underway : AreUnderway l.driver l.underway;
}

abbrev pub decreases-stages : goal.decreases-stages
decreases-stages g l = 2 ^ 64 - l.from
