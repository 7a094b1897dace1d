-- What the work on one claim comes to, outside the book: over some part of the answers that are filed.
use Rattle.std.specs.Prelude.{◌≡◌, true, ◌⊎◌, ℕ, ◌<◌, List, [], ◌∷◌, Option, Some, None, Result, Ok, Err}
use Rattle.gn_outside.specs.Tree.{Tree, read_of}
use Rattle.gn_outside.specs.States.{SourceState, SourceRead}
use Rattle.gn_outside.specs.Lists.{Extends}
use Rattle.gn_outside.specs.Sources.{plain_reads}
use Rattle.gn_items.specs.declared.key.Key.{Key as Named}
use Rattle.gn_executions.specs.Base.{BaseState}
use Rattle.gn_core.specs.Keys.{Key, Read, Import, Unit_of, Resolve, found, Filed}
use Rattle.gn_book.specs.Keys.{key_of as named_by}
use Rattle.gn_projects.specs.Files.{content_in}
use Rattle.gn_builds.specs.Working.{IsRightOver, IsInNeed, AsksContent}
use Rattle.gn_answers.specs.Answers.{meaning_of}
use Rattle.gn_answers.specs.Bases.{IsBaseFor}
use Rattle.gn_answers.specs.declared.answer.Filed.{Filed as FiledAnswer}
use Rattle.gn_perform.specs.Kept.{asked_so_far, asked_for, KeepsOf}
use Rattle.gn_perform.specs.declared.work.Performed.{Performed}
use Rattle.gn_perform.specs.declared.work.Performed.TheVariants.{Answered, Needs}
use Rattle.gn_answers.specs.declared.reading.PerformStop.{PerformStop}
use Rattle.gn_answers.specs.declared.reading.PerformStop.TheVariants.{Failed, Memory}

-- The work on a claim: the answer is right over this part, or the evaluation needs another answer over it
abbrev pub IsPerformed : BaseState → Filed → Key → Performed → Type 0
IsPerformed start part k (Answered filed) = IsRightOver start part k (meaning_of filed)
IsPerformed start part k (Needs on place kept) =
    IsInNeed start part k (named_by on) place (asked_for (named_by on) (asked_so_far kept)) × AsksContent (named_by on) (asked_for (named_by on) (asked_so_far kept))

-- it is the work on a claim over a base, where the base is that of its key
abbrev pub IsPerformedOver : BaseState → Filed → Key → Performed → Type 0
IsPerformedOver base part k done = (start : BaseState) → IsBaseFor start part k base → IsPerformed start part k done

-- an answer over it, where the work needs nothing else
abbrev pub IsAnsweredOver : BaseState → Filed → Key → Option FiledAnswer → Type 0
IsAnsweredOver base part k None = Unit {0}
IsAnsweredOver base part k (Some answer) = IsPerformedOver base part k (Answered answer)

-- what is kept is the rest of the execution of the key over this part, where it is to go on
abbrev pub KeepsFor : BaseState → Filed → Named → Performed → Type 0
KeepsFor base part key (Answered filed) = Unit {0}
KeepsFor base part key (Needs on place kept) = KeepsOf base part key kept

-- the answer of a read is what the tree has at its path
abbrev pub IsOfTree : Tree → Key → Performed → Type 0
IsOfTree tree (Read path) (Answered filed) = meaning_of filed ≡ found (content_in (read_of tree path))
IsOfTree tree _ _ = Unit {0}

-- The work on the claim of a read is one read of its path, which a want of memory may leave out; other work reads nothing. The count of faults rises exactly
-- where the read has failed
abbrev pub ReadsFor : Key → Option (List SourceRead) → Option (List SourceRead) → Result Performed PerformStop → Type 0
ReadsFor (Read path) before after (Ok done) = Extends before after (plain_reads (path ∷ []))
ReadsFor (Read path) before after (Err Failed) = Extends before after (record { path = path; failed = true } ∷ [])
ReadsFor (Read path) before after (Err Memory) = Extends before after (plain_reads (path ∷ [])) ⊎ (after ≡ before)
ReadsFor _ before after r = after ≡ before

abbrev pub CountsFor : ℕ → ℕ → Result Performed PerformStop → Type 0
CountsFor before after (Ok done) = after ≡ before
CountsFor before after (Err Failed) = before < after
CountsFor before after (Err Memory) = after ≡ before

-- only a read can fail
abbrev pub FailsAsRead : Key → Result Performed PerformStop → Type 0
FailsAsRead k (Ok done) = Unit {0}
FailsAsRead k (Err Failed) = (path : List ℕ) × (k ≡ Read path)
FailsAsRead k (Err Memory) = Unit {0}

pub record IsWorkOf (k : Key) (before after : SourceState) (r : Result Performed PerformStop) : Type 0 where
  pub tree : after.tree ≡ before.tree
  pub reads : ReadsFor k before.reads after.reads r
  pub faults : CountsFor before.faults after.faults r
  pub fails : FailsAsRead k r

-- an evaluation lacks nothing but memory
abbrev pub IsEvaluated : {E : Type 0} → Result Performed E → Result Performed PerformStop → Type 0
IsEvaluated (Ok done) r = r ≡ Ok done
IsEvaluated (Err e) r = r ≡ Err Memory

-- the work on a claim makes no record
abbrev pub HasWork : Key → Type 0
HasWork (Read path) = Unit {0}
HasWork (Import l path) = Unit {0}
HasWork (Unit_of unit) = Unit {0}
HasWork (Resolve label) = ⊥
