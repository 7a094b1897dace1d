-- What the parts of a run do.
use Rattle.std.specs.Prelude.{◌≡◌, ℕ, ◌<◌, ◌≤◌, List, ◌++◌, map, Result, Ok, Err}
use Rattle.gn_outside.specs.States.{SourceState, SinkState, PutFile, Put, piece_of}
use Rattle.gn_outside.specs.Lists.{Extends}
use Rattle.gn_top.specs.declared.answered.Answered.{Answered}
use Rattle.gn_top.specs.declared.answered.RunStop.{RunStop}
use Rattle.gn_top.specs.declared.answered.RunStop.TheVariants.{CannotRead, Memory}
use Rattle.gn_projects.specs.Loaded.{IsCount}
use Rattle.gn_top.specs.Said.{Said, usage_said}
use Rattle.gn_top.specs.Run.{SaysPart, TellsPartOf}

-- an answer has the status, the text and the files of a meaning, and has loaded as many build files
pub record IsSaying (answered : Answered) (meaning : Said) : Type 0 where
  pub status : answered.status ≡ meaning.status
  pub text : answered.text.items ≡ meaning.text
  pub files : answered.files ≡ meaning.files
  pub units : IsCount answered.units meaning.units

-- a fact of the path that can't be read, where that is why there is no answer
abbrev pub IfCannotRead : {T : Type 0} → Result T RunStop → (List ℕ → Type 0) → Type 0
IfCannotRead (Ok x) P = Unit {0}
IfCannotRead (Err (CannotRead path)) P = P path
IfCannotRead (Err Memory) P = Unit {0}

-- the count of faults rises exactly where the answer is that a file can't be read
abbrev pub CountsFault : {T : Type 0} → ℕ → ℕ → Result T RunStop → Type 0
CountsFault before after (Ok x) = after ≡ before
CountsFault before after (Err (CannotRead path)) = before < after
CountsFault before after (Err Memory) = after ≡ before

-- a text was said under this status, or the status says why not
pub record SaysUnder (before after : SinkState) (text : List ℕ) (wanted status : ℕ) : Type 0 where
  pub range : status ≤ 5
  pub whole : status ≤ 3 → (status ≡ wanted) × Extends before.events after.events (piece_of text) × (after.faults ≡ before.faults)
  pub failed : status ≡ 4 → before.faults < after.faults
  pub part : 4 ≤ status → SaysPart before after text

-- files were put and then a text was said under this status, or the status says why not
pub record TellsUnder (before after : SinkState) (files : List PutFile) (text : List ℕ) (wanted status : ℕ) : Type 0 where
  pub range : status ≤ 5
  pub whole : status ≤ 3 → (status ≡ wanted) × Extends before.events after.events (map Put files ++ piece_of text) × (after.faults ≡ before.faults)
  pub failed : status ≡ 4 → before.faults < after.faults
  pub part : 4 ≤ status → TellsPartOf files text before after

-- the usage line, or want of memory, and nothing was read
abbrev pub AnswersUsage : SourceState → SourceState → Result Answered RunStop → Type 0
AnswersUsage before after (Ok answered) = (after ≡ before) × IsSaying answered usage_said
AnswersUsage before after (Err (CannotRead path)) = ⊥
AnswersUsage before after (Err Memory) = after ≡ before
