use Rattle.std.proofs.Common.{◌≡◌, List, [], ℕ, length}
use Rattle.gn_outside.specs.Lists.{Each}
use Rattle.gn_outside.specs.States.{SourceState}
use Rattle.gn_book.specs.Logs.{state_of}
use Rattle.gn_load.specs.Turns.{Goes}
use Rattle.gn_load.specs.Rounds.{HasGoneOn, WillBeRight}
use Rattle.gn_load.proofs.round.load_all.Given as goal

abbrev pub invariant-files : goal.invariant-files
invariant-files g l = record {
  on : (known : List (List ℕ)) (before : SourceState) → Goes known before (g.S.Source.state l.fn.source) l.fn.driver []
      → HasGoneOn known before (g.S.Source.state l.source) l.fn.driver l.driver l.units [];
  waiting : l.driver.waiting.items ≡ [];
  right : Each (WillBeRight l.driver.base.start (state_of l.driver.book).filed) l.all.items;
}

abbrev pub decreases-files : goal.decreases-files
decreases-files g l = length l.all.items
