use Rattle.std.proofs.Common.{◌≡◌, ℕ, List, []}
use Rattle.gn_outside.specs.States.{SourceState}
use Rattle.gn_builds.specs.Driving.{units_left}
use Rattle.gn_load.specs.Turns.{Goes}
use Rattle.gn_load.specs.Plain.{IsDriving}
use Rattle.gn_load.proofs.plain.drive.Given as goal

abbrev pub invariant-rounds : goal.invariant-rounds
invariant-rounds g l =
    (known : List (List ℕ)) (before : SourceState) → Goes known before (g.S.Source.state l.fn.source) l.fn.driver []
    → IsDriving known before (g.S.Source.state l.source) l.driver l.units l.next × (l.driver.base.start ≡ l.fn.driver.base.start)

abbrev pub decreases-rounds : goal.decreases-rounds
decreases-rounds g l = units_left l.driver.book
