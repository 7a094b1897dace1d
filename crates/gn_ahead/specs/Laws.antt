-- What holds where some files are read ahead of the seat that loads.
use Rattle.std.specs.Prelude.{◌≡◌, ℕ, ◌+◌, ◌<◌, ◌≤◌, List, [], ◌∷◌, ◌++◌, length, Some, Result}
use Rattle.gn_paths.specs.declared.place.Place.{Place}
use Rattle.gn_outside.specs.Tree.{Tree}
use Rattle.gn_outside.specs.States.{SourceState}
use Rattle.gn_outside.specs.Lists.{AllDiffer}
use Rattle.gn_runs.specs.Runs.{Question}
use Rattle.gn_closure.specs.Closure.{In}
use Rattle.gn_executions.specs.Base.{BaseState}
use Rattle.gn_core.specs.Keys.{Read}
use Rattle.gn_core.specs.Machine.{read_limit}
use Rattle.gn_book.specs.Graphs.{UnitsHaveNumbers}
use Rattle.gn_book.specs.Keys.{key_of}
use Rattle.gn_book.specs.Logs.{Log, state_of, key_at, IsFree}
use Rattle.gn_book.specs.Next.{IsReadyNumber}
use Rattle.gn_book.specs.declared.book.Claim.{Claim}
use Rattle.gn_projects.specs.Files.{files_of}
use Rattle.gn_builds.specs.Working.{IsInNeed}
use Rattle.gn_builds.specs.Driving.{IsGoing, ReadsNumbered, FailsAt, IsLarge}
use Rattle.gn_builds.specs.Rest.{IsAtRest, IsSmall, IsTooLarge, ReadsAsked}
use Rattle.gn_answers.specs.Reading.{IsReadBy}
use Rattle.gn_answers.specs.declared.answer.FileContent.{FileContent}
use Rattle.gn_answers.specs.declared.reading.PerformStop.{PerformStop}
use Rattle.gn_ahead.specs.Ahead.{IsAskedRead, HasReadAll, ReadsOnlyAsked, GoesOnAhead, read_in_all, IsReadAhead}

-- Reads

-- before loading nothing was read
abbrev pub NothingIsRead : Type 0
NothingIsRead = (start : BaseState) (known : List (List ℕ)) (now : SourceState) → HasReadAll start known now now []

-- only what is asked for was read, and nothing twice
abbrev pub OnlyAskedIsRead : Type 0
OnlyAskedIsRead = (start : BaseState) (known : List (List ℕ)) (before now : SourceState) → AllDiffer known → ReadsOnlyAsked start known before now → ReadsAsked start known before now

abbrev pub AllIsAsked : Type 0
AllIsAsked = (start : BaseState) (known : List (List ℕ)) (before now : SourceState) (all : List (List ℕ)) → HasReadAll start known before now all → ReadsOnlyAsked start known before now

-- what the seat has read since then counts as known from now on, too
abbrev pub SeatReadsOn : Type 0
SeatReadsOn = (start : BaseState) (known : List (List ℕ)) (before mid now : SourceState) (all : List (List ℕ)) (l : Log) (cs : List Claim) (reads : ℕ) → HasReadAll start known before mid all
    → IsGoing start (known ++ all) mid now l cs reads → GoesOnAhead start known before now (read_in_all known all l) l cs × (length (read_in_all known all l) ≡ length all + reads)

-- a path that is asked for is read ahead
abbrev pub ReadsAheadGoOn : Type 0
ReadsAheadGoOn = (start : BaseState) (known : List (List ℕ)) (before now next : SourceState) (all : List (List ℕ)) (l : Log) (cs : List Claim) (path : List ℕ) (r : Result FileContent PerformStop)
    → GoesOnAhead start known before now all l cs → (In (known ++ all) path → ⊥) → IsAskedRead start before path → IsReadBy path now next r → IsReadAhead start known before next all l cs path r

-- Asked for

-- what is needed by a unit that the seat may claim is asked for
abbrev pub FirstReadIsAsked : Type 0
FirstReadIsAsked = (start : BaseState) (known : List (List ℕ)) (before mid now : SourceState) (l : Log) (n reads : ℕ) (path : List ℕ) (place : Place) (asked : List Question)
    → IsGoing start known mid now l [] reads → mid.tree ≡ before.tree → UnitsHaveNumbers l → IsReadyNumber l n → IsInNeed start (state_of l).filed (key_at l n) (Read path) place asked
    → IsAskedRead start before path

-- and what is needed by the first of its claims
abbrev pub NeededReadIsAsked : Type 0
NeededReadIsAsked = (start : BaseState) (known : List (List ℕ)) (before mid now : SourceState) (l : Log) (c : Claim) (cs : List Claim) (reads : ℕ) (path : List ℕ) (place : Place) (asked : List Question)
    → IsGoing start known mid now l (c ∷ cs) reads → mid.tree ≡ before.tree → IsInNeed start (state_of l).filed (key_of c.key) (Read path) place asked → IsFree (state_of l) (Read path)
    → IsAskedRead start before path

-- Ends

-- wherever the seat ends, only what is asked for was read
abbrev pub SeatEndsAsked : Type 0
SeatEndsAsked = (start : BaseState) (known : List (List ℕ)) (before mid now : SourceState) (all : List (List ℕ)) → HasReadAll start known before mid all → ReadsNumbered start (known ++ all) mid now
    → ReadsOnlyAsked start known before now

abbrev pub SeatFailsOn : Type 0
SeatFailsOn = (start : BaseState) (known : List (List ℕ)) (before mid now : SourceState) (all : List (List ℕ)) (path : List ℕ) → HasReadAll start known before mid all → FailsAt path mid now → FailsAt path before now

abbrev pub SeatEndsLarge : Type 0
SeatEndsLarge = (start : BaseState) (known : List (List ℕ)) (before mid now : SourceState) (all : List (List ℕ)) → HasReadAll start known before mid all → IsLarge start (known ++ all) mid now
    → ReadsOnlyAsked start known before now × (now.faults ≡ before.faults) × ((tree : Tree) → before.tree ≡ Some tree → IsTooLarge known (files_of start tree))

-- Limits

-- where no more were read in all than a build may ask for
abbrev pub FewReadsAreSmall : Type 0
FewReadsAreSmall = (start : BaseState) (known : List (List ℕ)) (mid now : SourceState) (all : List (List ℕ)) (l : Log) (cs : List Claim) (reads : ℕ) → IsGoing start (known ++ all) mid now l cs reads
    → length all + reads ≤ read_limit → IsSmall known l

-- and where more were, and it has come to rest
abbrev pub ManyReadsAreTooLarge : Type 0
ManyReadsAreTooLarge = (start : BaseState) (known : List (List ℕ)) (before mid now : SourceState) (all : List (List ℕ)) (l : Log) (reads : ℕ) (tree : Tree) → HasReadAll start known before mid all
    → before.tree ≡ Some tree → IsGoing start (known ++ all) mid now l [] reads → IsAtRest (files_of start tree) l → read_limit < length all + reads → IsTooLarge known (files_of start tree)
