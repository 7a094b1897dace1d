-- Which files are found to be read ahead.
use Rattle.std.specs.Prelude.{◌≡◌, ℕ, ◌+◌, List, [], Option, Some, None, Result, Ok, Err}
use Rattle.gn_paths.specs.declared.place.Place.{Place}
use Rattle.gn_outside.specs.States.{SourceState}
use Rattle.gn_values.specs.Tables.{at_name, with_name}
use Rattle.gn_runs.specs.Runs.{Question}
use Rattle.gn_core.specs.Keys.{Key, Read}
use Rattle.gn_book.specs.Keys.{key_of}
use Rattle.gn_book.specs.Logs.{state_of, key_at}
use Rattle.gn_book.specs.Next.{IsReadyNumber}
use Rattle.gn_items.specs.declared.key.Key.{Key as Named}
use Rattle.gn_builds.specs.Working.{IsInNeed}
use Rattle.gn_builds.specs.Driving.{IsOfLayer}
use Rattle.gn_answers.specs.declared.answer.FileContent.{FileContent}
use Rattle.gn_load.specs.Current.{layer_now}
use Rattle.gn_load.specs.Ahead.{IsStopAhead}
use Rattle.gn_prepared.specs.declared.wanted.Wanted.{Wanted}
use Rattle.gn_load.specs.Rebased.{IsRebased}
use Rattle.gn_load.specs.Rounds.{IsWanted, HasFound}
use Rattle.gn_load.specs.declared.driver.Driver.{Driver}
use Rattle.gn_load.specs.declared.driver.Stop.{Stop}
use Rattle.gn_load.specs.declared.found.Found.{Found}

-- this path is needed, and nothing is known of it
abbrev pub NeedsUnknown : List (List ℕ × FileContent) → Option (List ℕ) → Option (List ℕ) → Type 0
NeedsUnknown known needed None = Unit {0}
NeedsUnknown known needed (Some path) = (needed ≡ Some path) × (at_name path known ≡ None)

-- the work on a key of the layer of the driver's base needs this path first, of which nothing is known
pub record IsFirstPath (d : Driver) (k : Key) (path : List ℕ) : Type 0 where
  pub layer : IsOfLayer (layer_now d.base) k
  pub place : Place
  pub asked : List Question
  pub need : IsInNeed d.base.start (state_of d.book).filed k (Read path) place asked
  pub none : at_name path d.known.entries ≡ None

abbrev pub FindsPath : Driver → Key → Option (List ℕ) → Type 0
FindsPath d k None = Unit {0}
FindsPath d k (Some path) = IsFirstPath d k path

-- the key of a number may be claimed, and this path is the first that the work on it needs
pub record IsWantedAt (d : Driver) (n : ℕ) (name : Named) (path : List ℕ) : Type 0 where
  pub ready : IsReadyNumber d.book n
  pub key : key_of name ≡ key_at d.book n
  pub first : IsFirstPath d (key_of name) path

abbrev pub WantsAt : Driver → ℕ → Option (Named × List ℕ) → Type 0
WantsAt d n None = Unit {0}
WantsAt d n (Some (key, path)) = IsWantedAt d n key path

-- what there is at a path stands with what was read before, and one more file was read
pub record KeepsRead (old new : Driver) (was total : ℕ) (name : Named) (at : List ℕ) (content : FileContent) (w : Wanted) : Type 0 where
  pub base : new.base ≡ old.base
  pub book : new.book ≡ old.book
  pub waiting : new.waiting ≡ old.waiting
  pub known : new.known.entries ≡ with_name at content old.known.entries
  pub reads : new.reads ≡ old.reads
  pub counted : total ≡ was + 1
  pub key : w.key ≡ name
  pub path : w.path ≡ at

-- one file was read ahead, and is wanted
pub record HasReadOne (known : List (List ℕ)) (before now : SourceState) (old new : Driver) (total : ℕ) (w : Wanted) : Type 0 where
  pub goes : IsRebased known before now new [] total
  pub base : new.base ≡ old.base
  pub book : new.book ≡ old.book
  pub waiting : new.waiting ≡ old.waiting
  pub wanted : IsWanted old.base w

abbrev pub ReadsOne : List (List ℕ) → SourceState → SourceState → Driver → Driver → ℕ → Result Wanted Stop → Type 0
ReadsOne known before now old new total (Ok w) = HasReadOne known before now old new total w
ReadsOne known before now old new total (Err s) = IsStopAhead old.base.start known before now s

-- one more was found, or none
abbrev pub FindsAt : List (List ℕ) → SourceState → SourceState → Driver → Driver → ℕ → Found → Result (Unit {0}) Stop → Type 0
FindsAt known before now old new total files (Ok u) = HasFound known before now old new total files
FindsAt known before now old new total files (Err s) = IsStopAhead old.base.start known before now s
