-- What a whole run does to its sources and its sink.
use Rattle.std.specs.Prelude.{◌≡◌, ◌⊎◌, ℕ, ◌<◌, ◌≤◌, List, [], ◌∷◌, ◌++◌, map, take}
use Rattle.gn_outside.specs.States.{SourceState, SinkState, SinkEvent, PutFile, SaidPiece, Put, piece_of}
use Rattle.gn_outside.specs.Lists.{EachPair, Extends}
use Rattle.gn_outside.specs.Sources.{AllTellReads, total_faults, FailedAt, IsLeastFailure}
use Rattle.gn_top.specs.Texts.{usage_line, cannot_read_line}
use Rattle.gn_projects.specs.Loaded.{IsCount, IsWithin}
use Rattle.gn_top.specs.Said.{Said}

-- what this meaning tells the sink: its files in their order, and then its text in one piece
abbrev pub events_of : Said → List SinkEvent
events_of meaning = map Put meaning.files ++ piece_of meaning.text

-- the sink was told what this meaning tells and nothing else, under its status
pub record EndsAs (meaning : Said) (before after : SinkState) (status : ℕ) : Type 0 where
  pub same_status : status ≡ meaning.status
  pub events : Extends before.events after.events (events_of meaning)

-- nothing was told, or a first part of this text in one piece
abbrev pub SaysPart : SinkState → SinkState → List ℕ → Type 0
SaysPart before after text = (after.events ≡ before.events) ⊎ ((n : ℕ) × Extends before.events after.events (SaidPiece (take n text) ∷ []))

-- a first part of files and of the text behind them: the first of the files, or all of them and then a first part of the text
abbrev pub TellsPartOf : List PutFile → List ℕ → SinkState → SinkState → Type 0
TellsPartOf files text before after = ((n : ℕ) × Extends before.events after.events (map Put (take n files)))
    ⊎ ((n : ℕ) × Extends before.events after.events (map Put files ++ SaidPiece (take n text) ∷ []))

-- a first part of what this meaning tells
abbrev pub TellsPart : Said → SinkState → SinkState → Type 0
TellsPart meaning before after = TellsPartOf meaning.files meaning.text before after

-- no source has failed, and no write
pub record NoFault (sources now : List SourceState) (sink after : SinkState) : Type 0 where
  pub no_read : total_faults now ≡ total_faults sources
  pub no_write : after.faults ≡ sink.faults

-- nothing was read, and the usage line was said, whole unless the run was cut short
pub record EndsWithUsage (sources now : List SourceState) (sink after : SinkState) (status units : ℕ) : Type 0 where
  pub nothing_read : now ≡ sources
  pub no_units : units ≡ 0
  pub whole : status ≤ 3 → (status ≡ 2) × Extends sink.events after.events (piece_of usage_line)
  pub part : 4 ≤ status → SaysPart sink after usage_line

-- the line on the failed read of this path, which is the least such path where the reads are told
pub record SaysFailure (sources now : List SourceState) (sink after : SinkState) (path : List ℕ) : Type 0 where
  pub text : Extends sink.events after.events (piece_of (cannot_read_line path))
  pub least : AllTellReads sources → IsLeastFailure sources now path

-- a source has failed, and the sink was told one line alone, which names the least path whose read failed
pub record CannotRead (sources now : List SourceState) (sink after : SinkState) : Type 0 where
  pub failed : total_faults sources < total_faults now
  pub last : AllTellReads sources → EachPair (λ (s t : SourceState). s.faults < t.faults → (path : List ℕ) × FailedAt path s t) sources now
  pub text : (path : List ℕ) × SaysFailure sources now sink after path

-- a source has failed, and the sink was told no more than a first part of the line on this path
pub record CutsFailure (sources now : List SourceState) (sink after : SinkState) (path : List ℕ) : Type 0 where
  pub failed : total_faults sources < total_faults now
  pub text : SaysPart sink after (cannot_read_line path)
  pub least : AllTellReads sources → IsLeastFailure sources now path

-- before a failed write or want of memory: a first part of what the meaning tells, or of the line on a failed read
pub record IsCutShort (meaning : Said) (sources now : List SourceState) (sink after : SinkState) : Type 0 where
  pub told : TellsPart meaning sink after ⊎ ((path : List ℕ) × CutsFailure sources now sink after path)

-- a run that says its meaning has loaded the build files of the meaning, and any other no more than these
pub record LoadsUnits (meaning : Said) (status units : ℕ) : Type 0 where
  pub whole : status ≤ 2 → IsCount units meaning.units
  pub bound : IsWithin units meaning.units
