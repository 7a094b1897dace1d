-- What a source has at a path, and what it has read then.
use Rattle.std.specs.Prelude.{◌≡◌, true, ◌⊎◌, ℕ, ◌<◌, List, [], ◌∷◌, Option, Result, Ok, Err}
use Rattle.gn_outside.specs.States.{SourceState, SourceRead}
use Rattle.gn_outside.specs.Lists.{Extends}
use Rattle.gn_outside.specs.Sources.{plain_reads}
use Rattle.gn_runs.specs.Runs.{has_bytes}
use Rattle.gn_answers.specs.Answers.{content_view}
use Rattle.gn_answers.specs.declared.answer.FileContent.{FileContent}
use Rattle.gn_answers.specs.declared.reading.PerformStop.{PerformStop}
use Rattle.gn_answers.specs.declared.reading.PerformStop.TheVariants.{Failed, Memory}

-- the bytes of a file, or memory was wanting
abbrev pub IsContent : List ℕ → Result FileContent PerformStop → Type 0
IsContent bytes (Ok content) = content_view content ≡ has_bytes bytes
IsContent bytes (Err Failed) = ⊥
IsContent bytes (Err Memory) = Unit {0}

-- one read of a path, which a want of memory may leave out. The count of faults rises exactly where the read has failed
abbrev pub JoinsReads : List ℕ → Option (List SourceRead) → Option (List SourceRead) → Result FileContent PerformStop → Type 0
JoinsReads path before after (Ok content) = Extends before after (plain_reads (path ∷ []))
JoinsReads path before after (Err Failed) = Extends before after (record { path = path; failed = true } ∷ [])
JoinsReads path before after (Err Memory) = Extends before after (plain_reads (path ∷ [])) ⊎ (after ≡ before)

abbrev pub CountsRead : ℕ → ℕ → Result FileContent PerformStop → Type 0
CountsRead before after (Ok content) = after ≡ before
CountsRead before after (Err Failed) = before < after
CountsRead before after (Err Memory) = after ≡ before

pub record IsReadBy (path : List ℕ) (before after : SourceState) (r : Result FileContent PerformStop) : Type 0 where
  pub tree : after.tree ≡ before.tree
  pub reads : JoinsReads path before.reads after.reads r
  pub faults : CountsRead before.faults after.faults r
