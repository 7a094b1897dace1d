-- What the parts of loading by one seat do.
use Rattle.std.specs.Prelude.{◌≡◌, ◌≤◌, ℕ, List, [], ◌∷◌, Option, Some, None, Result, Ok, Err, true}
use Rattle.gn_faults.specs.declared.fault.Fault.{Fault}
use Rattle.gn_outside.specs.Tree.{Tree, read_of}
use Rattle.gn_outside.specs.States.{SourceState}
use Rattle.gn_outside.specs.Lists.{Each}
use Rattle.gn_executions.specs.Base.{BaseState}
use Rattle.gn_core.specs.Keys.{Key}
use Rattle.gn_core.specs.Machine.{IsOver}
use Rattle.gn_core.specs.Layered.{IsPart}
use Rattle.gn_book.specs.Keys.{key_of}
use Rattle.gn_book.specs.Graphs.{is_unit, UnitsHaveNumbers}
use Rattle.gn_book.specs.Logs.{Log, state_of}
use Rattle.gn_book.specs.Next.{NextIs}
use Rattle.gn_book.specs.declared.book.Claim.{Claim}
use Rattle.gn_book.specs.declared.next.Next.TheVariants.{Quiet}
use Rattle.gn_projects.specs.Files.{content_in, Files, files_of}
use Rattle.gn_projects.specs.Worlds.{world_of}
use Rattle.gn_projects.specs.Errors.{too_large}
use Rattle.gn_projects.specs.Loaded.{Failure, IsCount, files_reached, loaded}
use Rattle.gn_builds.specs.Driving.{IsDriven, with_claim, units_left, files_begun}
use Rattle.gn_builds.specs.Rest.{IsAtRest, Rests, IsSmall, ReachesFew, ReadsAsked}
use Rattle.gn_answers.specs.Answers.{content_view}
use Rattle.gn_load.specs.Turns.{known_paths, Goes, IsStop}
use Rattle.gn_judging.specs.Judging.{AreParts, build_by}
use Rattle.gn_built.specs.Built.{build_of}
use Rattle.gn_load.specs.Ends.{IsEndOf, CountsEnd}
use Rattle.gn_built.specs.declared.built.Built.{Built}
use Rattle.gn_answers.specs.declared.answer.FileContent.{FileContent}
use Rattle.gn_load.specs.declared.driver.Driver.{Driver}
use Rattle.gn_load.specs.declared.driver.Stop.{Stop}
use Rattle.gn_load.specs.declared.driver.Stop.TheVariants as stop
use Rattle.gn_judging.specs.declared.judging.Judged.{Judged}
use Rattle.gn_judging.specs.declared.judging.Judged.TheVariants as judged
use Rattle.gn_load.specs.declared.plain.LoadEnd.{LoadEnd}
use Rattle.gn_load.specs.declared.plain.LoadEnd.TheVariants as end

-- what was read before is what the tree has there
abbrev pub Agrees : List (List ℕ × FileContent) → Tree → Type 0
Agrees known tree = Each (λ (e : List ℕ × FileContent). content_view e.1 ≡ content_in (read_of tree e.0)) known

-- before anything is claimed, and read
pub record IsStarted (base : BaseState) (known : List (List ℕ × FileContent)) (d : Driver) : Type 0 where
  pub start : d.base.start ≡ base
  pub goes : (now : SourceState) → ((tree : Tree) → now.tree ≡ Some tree → Agrees known tree) → Goes (known_paths known) now now d []
  pub waiting : d.waiting.items ≡ []
  pub counted : files_begun d.book ≡ 0

-- Units

-- so many build files are claimed or have answers, wherever loading ends
pub record HasBegun (start : BaseState) (before : SourceState) (units : ℕ) : Type 0 where
  pub log : Log
  pub keys : List Key
  pub driven : IsDriven start log keys
  pub over : (tree : Tree) → before.tree ≡ Some tree → IsOver (world_of (files_of start tree)) log.events
  pub counted : units ≡ files_begun log

-- the units that are reached have numbers, and no more are reached than in a build may be
pub record AreNumbered (l : Log) : Type 0 where
  pub numbers : UnitsHaveNumbers l
  pub few : ReachesFew l

-- they get these; nothing is filed or claimed, and no more units are left
pub record HasNumbered (known : List (List ℕ)) (before now : SourceState) (old new : Driver) : Type 0 where
  pub goes : Goes known before now new []
  pub base : new.base ≡ old.base
  pub waiting : new.waiting ≡ old.waiting
  pub numbered : AreNumbered new.book
  pub begun : files_begun new.book ≡ files_begun old.book
  pub left : units_left new.book ≤ units_left old.book
  pub more : IsPart (state_of old.book).filed (state_of new.book).filed

abbrev pub NumbersUnits : List (List ℕ) → SourceState → SourceState → Driver → Driver → Result (Unit {0}) Stop → Type 0
NumbersUnits known before now old new (Ok u) = HasNumbered known before now old new
NumbersUnits known before now old new (Err s) = IsStop old.base.start known before now s

-- the seat goes on with a unit, with the base of its layer, and build files are counted
pub record HasClaimed (known : List (List ℕ)) (before now : SourceState) (old new : Driver) (units : ℕ) (c : Claim) : Type 0 where
  pub goes : Goes known before now new (c ∷ [])
  pub start : new.base.start ≡ old.base.start
  pub waiting : new.waiting ≡ old.waiting
  pub unit : is_unit (key_of c.key) ≡ true
  pub numbered : AreNumbered new.book
  pub counted : units ≡ files_begun new.book
  pub left : units_left new.book ≤ units_left old.book
  pub more : IsPart (state_of old.book).filed (state_of new.book).filed

abbrev pub ClaimsUnit : {E : Type 0} → List (List ℕ) → SourceState → SourceState → Driver → Driver → ℕ → Result Claim E → Type 0
ClaimsUnit known before now old new units (Ok c) = HasClaimed known before now old new units c
ClaimsUnit known before now old new units (Err e) = HasBegun old.base.start before units

-- a unit comes next, or nothing
abbrev pub ComesNext : Log → Option Claim → Type 0
ComesNext l (Some c) = is_unit (key_of c.key) ≡ true
ComesNext l None = NextIs l 0 Quiet

pub record IsTakenUp (known : List (List ℕ)) (before now : SourceState) (old new : Driver) (units : ℕ) (next : Option Claim) : Type 0 where
  pub goes : Goes known before now new (with_claim next [])
  pub start : new.base.start ≡ old.base.start
  pub waiting : new.waiting ≡ old.waiting
  pub numbered : AreNumbered new.book
  pub counted : units ≡ files_begun new.book
  pub left : units_left new.book ≤ units_left old.book
  pub more : IsPart (state_of old.book).filed (state_of new.book).filed
  pub comes : ComesNext new.book next

abbrev pub TakesUp : List (List ℕ) → SourceState → SourceState → Driver → Driver → ℕ → Result (Option Claim) Stop → Type 0
TakesUp known before now old new units (Ok next) = IsTakenUp known before now old new units next
TakesUp known before now old new units (Err s) = IsStop old.base.start known before now s × HasBegun old.base.start before units

-- units are loaded one by one
pub record IsDriving (known : List (List ℕ)) (before now : SourceState) (d : Driver) (units : ℕ) (next : Option Claim) : Type 0 where
  pub goes : Goes known before now d (with_claim next [])
  pub waiting : d.waiting.items ≡ []
  pub numbered : AreNumbered d.book
  pub counted : units ≡ files_begun d.book
  pub comes : ComesNext d.book next

-- all is loaded
pub record IsWhollyLoaded (known : List (List ℕ)) (before now : SourceState) (d : Driver) (units : ℕ) : Type 0 where
  pub goes : Goes known before now d []
  pub rests : Rests d.base.start d.book
  pub few : ReachesFew d.book
  pub counted : units ≡ files_begun d.book

abbrev pub IsDrive : List (List ℕ) → SourceState → SourceState → Driver → Driver → ℕ → Result (Unit {0}) Stop → Type 0
IsDrive known before now old d units (Ok u) = IsWhollyLoaded known before now d units × (d.base.start ≡ old.base.start)
IsDrive known before now old d units (Err s) = IsStop old.base.start known before now s × HasBegun old.base.start before units

-- Ends

-- a build without an error is whole
abbrev pub AreWhole : Log → Judged → Type 0
AreWhole l (judged.Wrong fault) = Unit {0}
AreWhole l (judged.Right parts) = AreParts l parts

-- loading ends with the error of the build, or with what was loaded
abbrev pub EndsBy : Log → Judged → LoadEnd → Type 0
EndsBy l (judged.Wrong fault) e = e ≡ end.Wrong fault
EndsBy l (judged.Right parts) (end.Built built) = build_of built ≡ build_by l parts
EndsBy l (judged.Right parts) (end.Wrong fault) = ⊥
EndsBy l (judged.Right parts) (end.Failed path) = ⊥
EndsBy l (judged.Right parts) end.Memory = ⊥

-- the end of a build whose loading has come to rest, and how many build files that has claimed
pub record IsBuilt (l : Log) (build : Built) (known : List (List ℕ)) (files : Files) : Type 0 where
  pub is : loaded known files ≡ Ok (build_of build)
  pub counted : files_begun l ≡ files_reached (world_of files)

pub record IsWrong (l : Log) (error : Fault) (known : List (List ℕ)) (files : Files) : Type 0 where
  pub failure : Failure
  pub is : loaded known files ≡ Err failure
  pub fault : failure.fault ≡ error
  pub counted : IsCount (files_begun l) failure.units

abbrev pub IsEndAt : Log → LoadEnd → Type 0
IsEndAt l (end.Built built) = (known : List (List ℕ)) (files : Files) → IsAtRest files l → IsSmall known l → IsBuilt l built known files
IsEndAt l (end.Wrong fault) = (known : List (List ℕ)) (files : Files) → IsAtRest files l → IsSmall known l → IsWrong l fault known files
IsEndAt l (end.Failed path) = ⊥
IsEndAt l end.Memory = ⊥

-- that of one that was stopped
abbrev pub IsStopped : Stop → LoadEnd → Type 0
IsStopped (stop.Failed path) e = e ≡ end.Failed path
IsStopped stop.TooLarge e = e ≡ end.Wrong too_large
IsStopped stop.Memory e = e ≡ end.Memory

-- loading
pub record IsLoadedAs (start : BaseState) (known : List (List ℕ)) (before after : SourceState) (units : ℕ) (e : LoadEnd) : Type 0 where
  pub end : (tree : Tree) → before.tree ≡ Some tree → IsEndOf start known tree e units
  pub reads : ReadsAsked start known before after
  pub faults : CountsEnd before after e

abbrev pub IsLoad : {E : Type 0} → BaseState → List (List ℕ) → SourceState → SourceState → ℕ → Result LoadEnd E → Type 0
IsLoad start known before after units (Ok e) = IsLoadedAs start known before after units e
IsLoad start known before after units (Err e) = IsLoadedAs start known before after units end.Memory

-- its end, and want of memory where there is none
abbrev pub end_or_memory : {E : Type 0} → Result LoadEnd E → LoadEnd
end_or_memory (Ok e) = e
end_or_memory (Err e) = end.Memory
