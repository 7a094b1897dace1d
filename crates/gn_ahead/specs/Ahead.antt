-- What a source has read: paths that loading asks for, each once, in any order.
use Rattle.std.specs.Prelude.{◌≡◌, ℕ, List, [], ◌∷◌, ◌++◌, Some, Result, Ok, Err}
use Rattle.gn_outside.specs.Tree.{Tree}
use Rattle.gn_outside.specs.States.{SourceRead, SourceState, paths_of}
use Rattle.gn_outside.specs.Lists.{Extends, AllDiffer}
use Rattle.gn_outside.specs.Sources.{ReadsOnBy, plain_reads}
use Rattle.gn_closure.specs.Closure.{In}
use Rattle.gn_executions.specs.Base.{BaseState}
use Rattle.gn_core.specs.Keys.{Key, Read}
use Rattle.gn_core.specs.Machine.{IsOver}
use Rattle.gn_book.specs.Logs.{Log}
use Rattle.gn_book.specs.declared.book.Claim.{Claim}
use Rattle.gn_projects.specs.Files.{files_of}
use Rattle.gn_projects.specs.Worlds.{world_of}
use Rattle.gn_builds.specs.Driving.{IsDriven, IsGoing, paths_read, unknown_of, FailsAt}
use Rattle.gn_answers.specs.declared.answer.FileContent.{FileContent}
use Rattle.gn_answers.specs.declared.reading.PerformStop.{PerformStop}
use Rattle.gn_answers.specs.declared.reading.PerformStop.TheVariants.{Failed, Memory}

-- loading has come to ask for a path, or would if it went on so
pub record IsAskedRead (start : BaseState) (before : SourceState) (path : List ℕ) : Type 0 where
  pub log : Log
  pub keys : List Key
  pub driven : IsDriven start log keys
  pub over : (tree : Tree) → before.tree ≡ Some tree → IsOver (world_of (files_of start tree)) log.events
  pub numbered : In log.keys (Read path)

-- the source has read these paths, each once, all of them asked for, and none that was known before; none has failed
pub record HasReadAll (start : BaseState) (known : List (List ℕ)) (before now : SourceState) (all : List (List ℕ)) : Type 0 where
  pub tree : now.tree ≡ before.tree
  pub faults : now.faults ≡ before.faults
  pub reads : Extends before.reads now.reads (plain_reads all)
  pub differ : AllDiffer all
  pub new : (path : List ℕ) → In all path → In known path → ⊥
  pub asked : (path : List ℕ) → In all path → IsAskedRead start before path

-- whatever has become of it, it has read paths that are asked for, each once, none that was known before, and none behind a read that has failed
pub record ReadsOnlyAsked (start : BaseState) (known : List (List ℕ)) (before now : SourceState) : Type 0 where
  pub reads : List SourceRead
  pub goes : ReadsOnBy before now reads
  pub differ : AllDiffer (paths_of reads)
  pub new : (path : List ℕ) → In (paths_of reads) path → In known path → ⊥
  pub asked : (path : List ℕ) → In (paths_of reads) path → IsAskedRead start before path

-- A seat goes on, and all that the source has read so far counts as known before
pub record GoesOnAhead (start : BaseState) (known : List (List ℕ)) (before now : SourceState) (all : List (List ℕ)) (l : Log) (cs : List Claim) : Type 0 where
  pub has : HasReadAll start known before now all
  pub going : IsGoing start (known ++ all) now now l cs 0

-- what was read in all, where those that the seat has read come behind what was known to it
abbrev pub read_in_all : List (List ℕ) → List (List ℕ) → Log → List (List ℕ)
read_in_all known all l = all ++ unknown_of (known ++ all) (paths_read l.keys)

-- one path is read ahead of the seat
abbrev pub IsReadAhead : BaseState → List (List ℕ) → SourceState → SourceState → List (List ℕ) → Log → List Claim → List ℕ → Result FileContent PerformStop → Type 0
IsReadAhead start known before next all l cs path (Ok content) = GoesOnAhead start known before next (all ++ path ∷ []) l cs
IsReadAhead start known before next all l cs path (Err Failed) = ReadsOnlyAsked start known before next × FailsAt path before next
IsReadAhead start known before next all l cs path (Err Memory) = ReadsOnlyAsked start known before next × (next.faults ≡ before.faults)
