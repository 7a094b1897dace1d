use Rattle.std.proofs.Common.{◌-◌, ◌^◌, ℕ, List, []}
use Rattle.gn_outside.specs.States.{SourceState}
use Rattle.gn_core.specs.Layered.{IsPart}
use Rattle.gn_book.specs.Logs.{state_of}
use Rattle.gn_prepared.specs.Copies.{answers_of}
use Rattle.gn_load.specs.Ahead.{GoesAhead}
use Rattle.gn_load.specs.Rounds.{IsLookedAhead}
use Rattle.gn_load.proofs.stage.look_ahead.Given as goal

abbrev pub invariant-more : goal.invariant-more
invariant-more g l = record {
  on : (known : List (List ℕ)) (before : SourceState) → GoesAhead known before (g.S.Source.state l.fn.source) l.fn.driver [] l.fn.ahead.total
      → IsLookedAhead known before (g.S.Source.state l.source) l.fn.driver l.driver l.units l.ahead.total;
  copied : IsPart (answers_of l.copies) (state_of l.driver.book).filed;
}

abbrev pub decreases-more : goal.decreases-more
decreases-more g l = 2 ^ 64 - l.from
