-- What looking ahead does.
use Rattle.std.specs.Prelude.{◌≡◌, ◌⊎◌, ℕ, ◌+◌, ◌<◌, ◌≤◌, List, [], ◌∷◌, Option, Some, None, Result, Ok, Err, true}
use Rattle.gn_outside.specs.States.{SourceState}
use Rattle.gn_outside.specs.Lists.{Each}
use Rattle.gn_closure.specs.Reach.{Load}
use Rattle.gn_executions.specs.Base.{BaseState}
use Rattle.gn_core.specs.Keys.{Unit_of, found, Filed}
use Rattle.gn_core.specs.Layered.{IsPart}
use Rattle.gn_core.specs.Machine.{read_limit}
use Rattle.gn_book.specs.Graphs.{is_unit}
use Rattle.gn_book.specs.Keys.{key_of}
use Rattle.gn_book.specs.Logs.{state_of}
use Rattle.gn_book.specs.declared.book.Claim.{Claim}
use Rattle.gn_builds.specs.Working.{IsRightOver}
use Rattle.gn_builds.specs.Driving.{with_claim, units_left, files_begun, IsOfLayer}
use Rattle.gn_builds.specs.Rest.{Rests, ReachesFew}
use Rattle.gn_projects.specs.Errors.{too_large}
use Rattle.gn_answers.specs.Answers.{content_view, meaning_of}
use Rattle.gn_prepared.specs.Copies.{answers_of}
use Rattle.gn_prepared.specs.declared.copies.Copies.{Copies}
use Rattle.gn_prepared.specs.declared.wanted.Wanted.{Wanted}
use Rattle.gn_load.specs.Current.{layer_now}
use Rattle.gn_load.specs.Turns.{Goes, IsStop}
use Rattle.gn_load.specs.Plain.{HasBegun, AreNumbered, ComesNext, IsEndAt}
use Rattle.gn_load.specs.Ahead.{GoesAhead, IsStopAhead}
use Rattle.gn_load.specs.Rebased.{IsRebased}
use Rattle.gn_load.specs.declared.current.CurrentBase.{CurrentBase}
use Rattle.gn_load.specs.declared.driver.Driver.{Driver}
use Rattle.gn_load.specs.declared.driver.Stop.{Stop}
use Rattle.gn_load.specs.declared.driver.Stop.TheVariants.{Memory}
use Rattle.gn_load.specs.declared.found.Found.{Found}
use Rattle.gn_load.specs.declared.plain.LoadEnd.{LoadEnd}
use Rattle.gn_load.specs.declared.plain.LoadEnd.TheVariants as end
use Rattle.gn_load.specs.declared.ready.Ready.{Ready}
use Rattle.gn_load.specs.declared.stage.Underway.{Underway}

-- Files that are read ahead

-- the build file is of the layer of the base
abbrev pub IsWanted : CurrentBase → Wanted → Type 0
IsWanted b w = IsOfLayer (layer_now b) (key_of w.key)

-- some were read, and nothing else has changed of the driver
pub record HasFound (known : List (List ℕ)) (before now : SourceState) (old new : Driver) (total : ℕ) (files : Found) : Type 0 where
  pub goes : IsRebased known before now new [] total
  pub base : new.base ≡ old.base
  pub book : new.book ≡ old.book
  pub waiting : new.waiting ≡ old.waiting
  pub wanted : Each (IsWanted old.base) files.wanted.items

abbrev pub FindsFiles : List (List ℕ) → SourceState → SourceState → Driver → Driver → ℕ → Result Found Stop → Type 0
FindsFiles known before now old new total (Ok files) = HasFound known before now old new total files
FindsFiles known before now old new total (Err s) = IsStopAhead old.base.start known before now s

-- What was executed ahead

-- it is right over more that is filed, where its file is filed with this content
abbrev pub WillBeRight : BaseState → Filed → Ready → Type 0
WillBeRight start filed r = (more : Filed) → IsPart filed more → more (key_of r.file) ≡ Some (found (content_view r.content))
    → IsRightOver start more (Unit_of (Load r.directory r.toolchain)) (meaning_of r.answer)

-- Loading what was executed

-- loading has gone on to these claims
pub record HasGoneOn (known : List (List ℕ)) (before now : SourceState) (old new : Driver) (units : ℕ) (cs : List Claim) : Type 0 where
  pub goes : Goes known before now new cs
  pub start : new.base.start ≡ old.base.start
  pub counted : units ≡ files_begun new.book
  pub left : units_left new.book ≤ units_left old.book
  pub more : IsPart (state_of old.book).filed (state_of new.book).filed

-- the seat has claimed a unit, or nothing
pub record IsGivenOut (known : List (List ℕ)) (before now : SourceState) (old new : Driver) (units : ℕ) (c : Claim) : Type 0 where
  pub on : HasGoneOn known before now old new units (c ∷ [])
  pub waiting : new.waiting ≡ old.waiting
  pub unit : is_unit (key_of c.key) ≡ true
  pub numbered : AreNumbered new.book

abbrev pub GivesOut : List (List ℕ) → SourceState → SourceState → Driver → Driver → ℕ → Result (Option Claim) Stop → Type 0
GivesOut known before now old new units (Ok None) = HasGoneOn known before now old new units [] × (new.waiting ≡ old.waiting)
GivesOut known before now old new units (Ok (Some c)) = IsGivenOut known before now old new units c
GivesOut known before now old new units (Err s) = IsStop old.base.start known before now s × HasBegun old.base.start before units

-- units were loaded
abbrev pub LoadsMore : List (List ℕ) → SourceState → SourceState → Driver → Driver → ℕ → Result (Unit {0}) Stop → Type 0
LoadsMore known before now old new units (Ok u) = HasGoneOn known before now old new units [] × (new.waiting.items ≡ [])
LoadsMore known before now old new units (Err s) = IsStop old.base.start known before now s × HasBegun old.base.start before units

-- Stages of looking ahead

-- the next files were read, and nothing was filed or claimed
pub record HasFoundNext (known : List (List ℕ)) (before now : SourceState) (old new : Driver) (total : ℕ) (files : Found) : Type 0 where
  pub goes : GoesAhead known before now new [] total
  pub base : new.base ≡ old.base
  pub waiting : new.waiting ≡ old.waiting
  pub begun : files_begun new.book ≡ files_begun old.book
  pub left : units_left new.book ≤ units_left old.book
  pub more : IsPart (state_of old.book).filed (state_of new.book).filed
  pub wanted : Each (IsWanted new.base) files.wanted.items

abbrev pub FindsNext : List (List ℕ) → SourceState → SourceState → Driver → Driver → ℕ → Result Found Stop → Type 0
FindsNext known before now old new total (Ok files) = HasFoundNext known before now old new total files
FindsNext known before now old new total (Err s) = IsStopAhead old.base.start known before now s

-- units were loaded, or none
pub record IsLookedAhead (known : List (List ℕ)) (before now : SourceState) (old new : Driver) (units total : ℕ) : Type 0 where
  pub goes : GoesAhead known before now new [] total
  pub start : new.base.start ≡ old.base.start
  pub waiting : new.waiting.items ≡ []
  pub counted : units ≡ files_begun new.book
  pub left : units_left new.book ≤ units_left old.book
  pub more : IsPart (state_of old.book).filed (state_of new.book).filed

-- units were loaded, and then the next files read
abbrev pub LoadsAndFinds : List (List ℕ) → SourceState → SourceState → Driver → Driver → ℕ → ℕ → Result Found Stop → Type 0
LoadsAndFinds known before now old new units total (Ok files) = IsLookedAhead known before now old new units total × Each (IsWanted new.base) files.wanted.items
LoadsAndFinds known before now old new units total (Err s) = IsStopAhead old.base.start known before now s × HasBegun old.base.start before units

-- these are underway: those whose files were read, and those that were executed
pub record AreUnderway (d : Driver) (files : Underway) : Type 0 where
  pub wanted : Each (IsWanted d.base) files.found.wanted.items
  pub right : Each (WillBeRight d.base.start (state_of d.book).filed) files.ready.items

-- a stop of what was done meanwhile, or want of memory
abbrev pub GivesStop : Result Found Stop → Stop → Type 0
GivesStop (Ok files) s = s ≡ Memory
GivesStop (Err e) s = s ≡ e

-- a stage: the copies are still of what is filed
pub record HasGoneStage (known : List (List ℕ)) (before now : SourceState) (old new : Driver) (units total : ℕ) (copies : Copies) (files : Underway) : Type 0 where
  pub looked : IsLookedAhead known before now old new units total
  pub copied : IsPart (answers_of copies) (state_of new.book).filed
  pub underway : AreUnderway new files

abbrev pub GoesStage : List (List ℕ) → SourceState → SourceState → Driver → Driver → ℕ → ℕ → Copies → Result Underway Stop → Type 0
GoesStage known before now old new units total copies (Ok files) = HasGoneStage known before now old new units total copies files
GoesStage known before now old new units total copies (Err s) = IsStopAhead old.base.start known before now s × HasBegun old.base.start before units

abbrev pub LooksAhead : List (List ℕ) → SourceState → SourceState → Driver → Driver → ℕ → ℕ → Copies → Result (Unit {0}) Stop → Type 0
LooksAhead known before now old new units total copies (Ok u) = IsLookedAhead known before now old new units total × IsPart (answers_of copies) (state_of new.book).filed
LooksAhead known before now old new units total copies (Err s) = IsStopAhead old.base.start known before now s × HasBegun old.base.start before units

-- a unit was loaded, and perhaps others
abbrev pub LoadsNext : List (List ℕ) → SourceState → SourceState → Driver → Driver → ℕ → ℕ → Copies → Result (Unit {0}) Stop → Type 0
LoadsNext known before now old new units total copies (Ok u) =
    IsLookedAhead known before now old new units total × ((units_left new.book < units_left old.book) × IsPart (answers_of copies) (state_of new.book).filed)
LoadsNext known before now old new units total copies (Err s) = IsStopAhead old.base.start known before now s × HasBegun old.base.start before units

-- All units

pub record IsDrivingAhead (known : List (List ℕ)) (before now : SourceState) (d : Driver) (units total : ℕ) (next : Option Claim) : Type 0 where
  pub goes : GoesAhead known before now d (with_claim next []) total
  pub waiting : d.waiting.items ≡ []
  pub numbered : AreNumbered d.book
  pub counted : units ≡ files_begun d.book
  pub comes : ComesNext d.book next

pub record IsWhollyLoadedAhead (known : List (List ℕ)) (before now : SourceState) (d : Driver) (units total : ℕ) : Type 0 where
  pub goes : GoesAhead known before now d [] total
  pub rests : Rests d.base.start d.book
  pub few : ReachesFew d.book
  pub counted : units ≡ files_begun d.book

abbrev pub IsDriveAhead : List (List ℕ) → SourceState → SourceState → Driver → Driver → ℕ → ℕ → Result (Unit {0}) Stop → Type 0
IsDriveAhead known before now old d units total (Ok u) = IsWhollyLoadedAhead known before now d units total × (d.base.start ≡ old.base.start)
IsDriveAhead known before now old d units total (Err s) = IsStopAhead old.base.start known before now s × HasBegun old.base.start before units

-- the end of one that has come to rest: too many files were read, or it is by what was loaded
abbrev pub IsEndAhead : Driver → ℕ → LoadEnd → Type 0
IsEndAhead d total e = ((total + d.reads ≤ read_limit) × IsEndAt d.book e) ⊎ ((read_limit < total + d.reads) × (e ≡ end.Wrong too_large))
