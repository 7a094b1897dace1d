use Rattle.std.proofs.Common.{ℕ, List, ◌∷◌}
use Rattle.gn_outside.specs.States.{SourceState}
use Rattle.gn_builds.specs.Driving.{with_claim, left_to_do}
use Rattle.gn_book.specs.Logs.{state_of}
use Rattle.gn_load.specs.Current.{layer_now, base_now}
use Rattle.gn_perform.specs.Kept.{AreKept}
use Rattle.gn_load.specs.Turns.{Goes, room_of, IsTurned, IsNextOf, MayGoOn}
use Rattle.gn_load.proofs.driver.finish.Given as goal

abbrev pub invariant-turns : goal.invariant-turns
invariant-turns g l = record {
  turned : (known : List (List ℕ)) (before : SourceState) → Goes known before (g.S.Source.state l.fn.source) l.fn.driver (l.fn.claim ∷ l.fn.driver.waiting.items)
      → IsTurned known before (g.S.Source.state l.source) l.fn.driver l.driver (with_claim l.next l.driver.waiting.items) × IsNextOf l.next l.driver.waiting.items × MayGoOn l.next;
  rests : AreKept (base_now l.driver.base) (state_of l.driver.book).filed l.rests.items;
}

abbrev pub decreases-turns : goal.decreases-turns
decreases-turns g l = left_to_do (layer_now l.fn.driver.base) (room_of l.driver) l.driver.book
