-- What an evaluation over some part of the answers that are filed comes to.
use Rattle.std.specs.Prelude.{◌≡◌, List, [], None}
use Rattle.gn_paths.specs.declared.place.Place.{Place}
use Rattle.gn_runs.specs.Runs.{Question, content_of, is_absent, Answers, needs, Run}
use Rattle.gn_runs.specs.Laws.{IsAsked}
use Rattle.gn_closure.specs.Reach.{Unit_key}
use Rattle.gn_core.specs.Keys.{Key, Read, Import, Unit_of, Resolve, Answer, Filed, Leaving, UnitLeft, key_of, layer_of, shown}
use Rattle.gn_core.specs.Worlds.{World}
use Rattle.gn_core.specs.Machine.{State, IsRight}
use Rattle.gn_core.specs.Layered.{HasLayer}
use Rattle.gn_executions.specs.Base.{BaseState}
use Rattle.gn_projects.specs.Files.{import_of_layer}
use Rattle.gn_projects.specs.Bases.{base_of_layer}
use Rattle.gn_projects.specs.Worlds.{unit_over, world_of}

-- the world over no files: which events are allowed, but for what files hold, doesn't hang on them
abbrev pub evaluator : BaseState → World
evaluator start = world_of (record { start = start; given = λ path. is_absent; paths = [] })

-- the evaluation of a unit over what is filed
abbrev pub unit_of_key : BaseState → Filed → Unit_key → Answers → Run (Leaving UnitLeft)
unit_of_key start filed k answers = unit_over (base_of_layer start filed (layer_of k)) k answers

-- what is filed, where nothing is claimed
abbrev pub over : Filed → State
over filed = record { filed = filed; claims = λ k. None; blocks = λ k. None; stops = [] }

-- an answer that is right over a part of what is filed
abbrev pub IsRightOver : BaseState → Filed → Key → Answer → Type 0
IsRightOver start part k v = IsRight (evaluator start) part (over part) k v

-- over a part of what is filed the evaluation of a key needs another key, for a call at a place, and has asked this
abbrev pub IsInNeed : BaseState → Filed → Key → Key → Place → List Question → Type 0
IsInNeed start part (Read path) on place asked = ⊥
IsInNeed start part (Import l path) on place asked =
    (q : Question) × (on ≡ key_of l q) × ((import_of_layer (base_of_layer start part l) l path (shown part l)).end ≡ needs q place) × ((import_of_layer (base_of_layer start part l) l path (shown part l)).asked ≡ asked)
IsInNeed start part (Unit_of k) on place asked =
    (q : Question) × (on ≡ key_of (layer_of k) q) × ((unit_of_key start part k (shown part (layer_of k))).end ≡ needs q place) × ((unit_of_key start part k (shown part (layer_of k))).asked ≡ asked)
IsInNeed start part (Resolve label) on place asked = ⊥

-- the part has what the evaluation of a key sees of other units
abbrev pub IsSeen : BaseState → Filed → Key → Type 0
IsSeen start part (Read path) = Unit {0}
IsSeen start part (Import l path) = HasLayer (evaluator start) part l
IsSeen start part (Unit_of k) = HasLayer (evaluator start) part (layer_of k)
IsSeen start part (Resolve label) = ⊥

-- before an import is needed it was asked what there is at its path
abbrev pub AsksContent : Key → List Question → Type 0
AsksContent (Read path) asked = Unit {0}
AsksContent (Import l path) asked = IsAsked asked (content_of path)
AsksContent (Unit_of k) asked = Unit {0}
AsksContent (Resolve label) asked = Unit {0}
