-- Loading by one seat where some files were read ahead of it, and some build files executed ahead.
use Rattle.std.specs.Prelude.{◌≡◌, ℕ, ◌≤◌, List, ◌++◌, length, Some}
use Rattle.gn_outside.specs.Tree.{Tree}
use Rattle.gn_outside.specs.States.{SourceState}
use Rattle.gn_executions.specs.Base.{BaseState}
use Rattle.gn_core.specs.Machine.{read_limit}
use Rattle.gn_book.specs.declared.book.Claim.{Claim}
use Rattle.gn_projects.specs.Files.{files_of}
use Rattle.gn_builds.specs.Driving.{FailsAt}
use Rattle.gn_builds.specs.Rest.{IsTooLarge}
use Rattle.gn_ahead.specs.Ahead.{HasReadAll, ReadsOnlyAsked}
use Rattle.gn_load.specs.Turns.{Goes}
use Rattle.gn_load.specs.declared.driver.Driver.{Driver}
use Rattle.gn_load.specs.declared.driver.Stop.{Stop}
use Rattle.gn_load.specs.declared.driver.Stop.TheVariants.{Failed, TooLarge, Memory}

-- the driver goes on with these claims, where so many files were read before its own reads began, by itself or ahead: all these count as known to it
pub record GoesAhead (known : List (List ℕ)) (before now : SourceState) (d : Driver) (cs : List Claim) (total : ℕ) : Type 0 where
  pub all : List (List ℕ)
  pub mid : SourceState
  pub has : HasReadAll d.base.start known before mid all
  pub goes : Goes (known ++ all) mid now d cs
  pub counted : total ≡ length all
  pub few : total ≤ read_limit

-- where loading ends before all is loaded
abbrev pub IsStopAhead : BaseState → List (List ℕ) → SourceState → SourceState → Stop → Type 0
IsStopAhead start known before now (Failed path) = ReadsOnlyAsked start known before now × FailsAt path before now
IsStopAhead start known before now TooLarge =
    ReadsOnlyAsked start known before now × (now.faults ≡ before.faults) × ((tree : Tree) → before.tree ≡ Some tree → IsTooLarge known (files_of start tree))
IsStopAhead start known before now Memory = ReadsOnlyAsked start known before now × (now.faults ≡ before.faults)
