-- A driver for which all that was read so far, by itself and ahead of it, counts as known before.
use Rattle.std.specs.Prelude.{◌≡◌, ℕ, ◌≤◌, List, ◌++◌, length}
use Rattle.gn_outside.specs.States.{SourceState}
use Rattle.gn_core.specs.Machine.{read_limit}
use Rattle.gn_book.specs.declared.book.Claim.{Claim}
use Rattle.gn_ahead.specs.Ahead.{GoesOnAhead}
use Rattle.gn_load.specs.Turns.{Goes}
use Rattle.gn_load.specs.declared.driver.Driver.{Driver}

-- it goes on with these claims, and its own reads begin anew; so many files were read in all
pub record IsRebased (known : List (List ℕ)) (before now : SourceState) (d : Driver) (cs : List Claim) (total : ℕ) : Type 0 where
  pub all : List (List ℕ)
  pub goes_on : GoesOnAhead d.base.start known before now all d.book cs
  pub goes : Goes (known ++ all) now now d cs
  pub reads : d.reads ≡ 0
  pub counted : total ≡ length all
  pub few : total ≤ read_limit
