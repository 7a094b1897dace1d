-- What makes work outside the book right, and what it comes to.
use Rattle.std.specs.Prelude.{◌≡◌, ℕ, List, None}
use Rattle.gn_paths.specs.declared.place.Place.{Place}
use Rattle.gn_runs.specs.Runs.{Question}
use Rattle.gn_core.specs.Keys.{Layer, Key, Read, Import, Answer, no_value, Filed}
use Rattle.gn_core.specs.Machine.{State, NeedsAt, IsRight, ClosesCycle, IsFiled}
use Rattle.gn_core.specs.Layered.{IsPart}
use Rattle.gn_executions.specs.Base.{BaseState}
use Rattle.gn_projects.specs.Files.{Files}
use Rattle.gn_projects.specs.Worlds.{world_of}
use Rattle.gn_builds.specs.Working.{evaluator, IsRightOver, IsInNeed, IsSeen, AsksContent}

-- an answer that is right over a part of what is filed is right over all of it
abbrev pub PartsGiveAnswers : Type 0
PartsGiveAnswers = (start : BaseState) (part : Filed) (s : State) (k : Key) (v : Answer) → IsPart part s.filed → IsSeen start part k → IsRightOver start part k v
    → IsRight (evaluator start) s.filed s k v

-- what is needed over a part of what is filed is needed over all of it, where it isn't filed
abbrev pub PartsGiveNeeds : Type 0
PartsGiveNeeds = (start : BaseState) (part filed : Filed) (k on : Key) (place : Place) (asked : List Question) → IsPart part filed → IsSeen start part k → filed on ≡ None
    → IsInNeed start part k on place asked → NeedsAt (evaluator start) filed filed k on place × IsInNeed start filed k on place asked

-- an import is needed only where it is known what there is at its path
abbrev pub NeededImportsAreRead : Type 0
NeededImportsAreRead = (start : BaseState) (part : Filed) (k : Key) (l : Layer) (path : List ℕ) (place : Place) (asked : List Question)
    → IsInNeed start part k (Import l path) place asked → AsksContent (Import l path) asked → IsFiled part (Read path)

-- an import that needs another one has no value where its own wait closes a cycle
abbrev pub CyclesHaveNoValue : Type 0
CyclesHaveNoValue = (start : BaseState) (s : State) (k : Key) (path q : List ℕ) (place : Place) (asked : List Question) (l : Layer)
    → k ≡ Import l path → IsInNeed start s.filed k (Import l q) place asked → ClosesCycle s k → IsRight (evaluator start) s.filed s k (no_value q place asked)

-- which events are allowed, and what is right, is the same over all files
abbrev pub TreesDontMatter : Type 0
TreesDontMatter = (files : Files) (s : State) (k : Key) (v : Answer) → IsRight (evaluator files.start) s.filed s k v → IsRight (world_of files) s.filed s k v
