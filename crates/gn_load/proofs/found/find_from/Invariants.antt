use Rattle.std.proofs.Common.{ℕ, ◌-◌, List, []}
use Rattle.gn_outside.specs.States.{SourceState}
use Rattle.gn_load.specs.Rebased.{IsRebased}
use Rattle.gn_load.specs.Rounds.{HasFound}
use Rattle.gn_load.proofs.found.find_from.Given as goal

abbrev pub invariant-numbers : goal.invariant-numbers
invariant-numbers g l =
    (known : List (List ℕ)) (before : SourceState) → IsRebased known before (g.S.Source.state l.fn.source) l.fn.driver [] l.fn.total → HasFound known before (g.S.Source.state l.source) l.fn.driver l.driver l.total l.found

abbrev pub decreases-numbers : goal.decreases-numbers
decreases-numbers g l = l.end - l.number
