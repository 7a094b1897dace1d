-- What several sources together tell before a run and after it. The lists stand in the same order.
use Rattle.std.specs.Prelude.{◌≡◌, ◌≢◌, ℕ, ◌<◌, ◌+◌, Bool, true, false, List, [], ◌∷◌, ◌++◌, Option, None, Some, IsSome, drop, length, map}
use Rattle.std.specs.List.{list_any}
use Rattle.std.specs.Ordering.{nat_cmp}
use Rattle.std.specs.declared.cmp.Ordering.TheVariants.{Greater}
use Rattle.std.specs.Cmp.Lexicographic.{slice_cmp}
use Rattle.gn_outside.specs.Tree.{Tree}
use Rattle.gn_outside.specs.States.{SourceRead, SourceState, paths_of}
use Rattle.gn_outside.specs.Lists.{Each, SomePair, Extends}

-- all sources tell this one tree
abbrev pub AllTell : Tree → List SourceState → Type 0
AllTell tree sources = Each (λ (s : SourceState). s.tree ≡ Some tree) sources

-- all sources tell their reads
abbrev pub AllTellReads : List SourceState → Type 0
AllTellReads sources = Each (λ (s : SourceState). IsSome s.reads) sources

-- how often the sources have failed, together
abbrev pub total_faults : List SourceState → ℕ
total_faults [] = 0
total_faults (s ∷ sources) = s.faults + total_faults sources

-- the source has failed: its last read since has failed, at this path
pub record FailedAt (path : List ℕ) (before after : SourceState) : Type 0 where
  pub failed : before.faults < after.faults
  pub last : (reads earlier : List SourceRead) × (before.reads ≡ Some reads) × (after.reads ≡ Some (reads ++ earlier ++ record { path = path; failed = true } ∷ []))

-- p isn't greater than q in the order of bytes
abbrev pub IsAtMost : List ℕ → List ℕ → Type 0
IsAtMost p q = slice_cmp nat_cmp p q ≢ Greater

-- some source has failed at this path, and none at a lesser one
pub record IsLeastFailure (sources now : List SourceState) (path : List ℕ) : Type 0 where
  pub some : SomePair (FailedAt path) sources now
  pub least : (other : List ℕ) → SomePair (FailedAt other) sources now → IsAtMost path other

-- what one source has read in between
abbrev pub reads_since : Option (List SourceRead) → Option (List SourceRead) → List SourceRead
reads_since None now = []
reads_since (Some before) None = []
reads_since (Some before) (Some now) = drop (length before) now

-- the paths that the sources have read in between, one source after another
abbrev pub joined_reads : List SourceState → List SourceState → List (List ℕ)
joined_reads [] now = []
joined_reads (s ∷ sources) [] = []
joined_reads (s ∷ sources) (t ∷ now) = paths_of (reads_since s.reads t.reads) ++ joined_reads sources now

-- no read stands behind one that has failed
abbrev pub StopsAtFailure : List SourceRead → Type 0
StopsAtFailure [] = Unit {0}
StopsAtFailure (read ∷ reads) = (read.failed ≡ true → reads ≡ []) × StopsAtFailure reads

-- the count of faults rises exactly where a read has failed
abbrev pub CountsFailures : ℕ → ℕ → Bool → Type 0
CountsFailures before after true = before < after
CountsFailures before after false = after ≡ before

-- reads that haven't failed
abbrev pub plain_reads : List (List ℕ) → List SourceRead
plain_reads paths = map (λ path. record { path = path; failed = false }) paths

-- one source afterwards: the same tree; these reads joined its own, none behind one that has failed; its count rose exactly where one has
pub record ReadsOnBy (before after : SourceState) (reads : List SourceRead) : Type 0 where
  pub tree : after.tree ≡ before.tree
  pub joined : Extends before.reads after.reads reads
  pub stops : StopsAtFailure reads
  pub faults : CountsFailures before.faults after.faults (list_any (λ (read : SourceRead). read.failed) reads)

-- one source afterwards, whatever it has read in between
abbrev pub ReadsOn : SourceState → SourceState → Type 0
ReadsOn before after = (reads : List SourceRead) × ReadsOnBy before after reads
