-- How what is answered for a whole file stands to its execution.
use Rattle.std.specs.Prelude.{◌≡◌, ◌<◌, List, map, Option, Some, Result, Ok, Err, IfOk, IfErr}
use Rattle.std.specs.declared.vec.Vec.{Vec}
use Rattle.std.specs.declared.alloc.Global.{Global}
use Rattle.gn_definitions.specs.Imported.{ImportState}
use Rattle.gn_items.specs.Effects.{Effects}
use Rattle.gn_items.specs.declared.key.Key.{Key}
use Rattle.gn_items.specs.declared.key.Key.TheVariants.{Import as ImportKey, Setup as SetupKey, Load as LoadKey}
use Rattle.gn_items.specs.declared.question.Question.{Question as Asked}
use Rattle.gn_items.specs.Questions.{question_of}
use Rattle.gn_runs.specs.Runs.{Question, Answers, End, ended, wrong, spoiled, needs, Run}
use Rattle.gn_environment.specs.Environment.{Environment, reported_here}
use Rattle.gn_environment.specs.Imports.{import_left}
use Rattle.gn_tree.specs.Tree.{BlockTree}
use Rattle.gn_tree.specs.Depth.{IsShallow}
use Rattle.gn_meaning.specs.Calls.{checked_end}
use Rattle.gn_meaning.specs.Steps.{Left, Steps, ends, then_do}
use Rattle.gn_meaning.specs.Meaning.{configuration_ends}
use Rattle.gn_eval.specs.Library.{Need, LibraryState, Includes, GoesOn}
use Rattle.gn_eval.specs.Ends.{asked_until}
use Rattle.gn_eval.specs.declared.ending.EvalEnd.{EvalEnd}
use Rattle.gn_eval.specs.declared.ending.EvalEnd.TheVariants as ending
use Rattle.gn_executions.specs.Units.{import_execution}
use Rattle.gn_executions.specs.Found.{found_load_execution}
use Rattle.gn_executions.specs.Setups.{setup_execution}
use Rattle.gn_unit.specs.declared.unit.Unit.{Unit as Evaluated}
use Rattle.gn_unit.specs.declared.unit.Unit.TheVariants.{Setup, Load, Import, Wrong, Spoiled}
use Rattle.gn_unit.specs.declared.unit.EvalStop.{EvalStop}
use Rattle.gn_unit.specs.declared.unit.EvalStop.TheVariants.{Stopped, Paused, Again, Memory}
use Rattle.gn_outermost.specs.declared.paused.Paused.{Paused as PausedFile}
use Rattle.gn_outermost.specs.Rests.{rest_runs}
use Rattle.gn_executions.specs.Base.{BaseState}
use Rattle.gn_unit.specs.Begun.{LeavesTree, load_reads, setup_reads, import_reads}

-- an execution has ended with this value and these effects, whatever its environment is then
abbrev pub EndsWith : {A : Type 0} → A → Effects → End (Left A) → Type 0
EndsWith value effects end = (environment : Environment) × (end ≡ ended (record { value = value; environment = environment; effects = effects }))

-- a key that names the execution of a file: of a build configuration, of a build file or of one that is imported
abbrev pub IsExecuted : Key → Type 0
IsExecuted (ImportKey when toolchain path) = Unit {0}
IsExecuted (SetupKey toolchain) = Unit {0}
IsExecuted (LoadKey directory toolchain) = Unit {0}
IsExecuted _ = ⊥

-- what is answered for a key over a base is how its execution over these answers ends
abbrev pub IsLoadOf : Evaluated → End (Left (Unit {0})) → Type 0
IsLoadOf (Setup value effects) end = ⊥
IsLoadOf (Load effects) end = EndsWith tt effects end
IsLoadOf (Import value effects) end = ⊥
IsLoadOf (Wrong fault asked) end = end ≡ wrong fault
IsLoadOf (Spoiled path place asked) end = end ≡ spoiled path place

abbrev pub IsImportOf : Evaluated → End (Left ImportState) → Type 0
IsImportOf (Setup value effects) end = ⊥
IsImportOf (Load effects) end = ⊥
IsImportOf (Import value effects) end = EndsWith value effects end
IsImportOf (Wrong fault asked) end = end ≡ wrong fault
IsImportOf (Spoiled path place asked) end = end ≡ spoiled path place

abbrev pub IsSetupOf : Evaluated → End (Left ImportState) → Type 0
IsSetupOf (Setup value effects) end = EndsWith value effects end
IsSetupOf (Load effects) end = ⊥
IsSetupOf (Import value effects) end = ⊥
IsSetupOf (Wrong fault asked) end = end ≡ wrong fault
IsSetupOf (Spoiled path place asked) end = end ≡ spoiled path place

-- over these answers an execution needs what was noted, and has asked these questions before
abbrev pub IsNeeded : {A : Type 0} → Need → List Question → Run A → Type 0
IsNeeded need asked run = run ≡ record { end = needs need.question need.place; asked = asked_until need.question asked }

-- where the library has stopped, a fact of the questions asked before
abbrev pub WhereStopped : EvalStop → (List Question → Type 0) → Type 0
WhereStopped (Stopped asked) P = P (map question_of asked.items)
WhereStopped (Paused p) P = P p.out.asked
WhereStopped (Again tree asked) P = P (map question_of asked.items)
WhereStopped Memory P = Unit {0}

-- where it has stopped in front of a statement, a fact of what is kept
abbrev pub WherePaused : EvalStop → (PausedFile → Type 0) → Type 0
WherePaused (Stopped asked) P = Unit {0}
WherePaused (Paused p) P = P p
WherePaused (Again tree asked) P = Unit {0}
WherePaused Memory P = Unit {0}

-- where it has stopped behind the reading of the file, a fact of its tree, which is kept
abbrev pub WhereTree : EvalStop → (BlockTree → Type 0) → Type 0
WhereTree (Stopped asked) P = Unit {0}
WhereTree (Paused p) P = P p.tree
WhereTree (Again tree asked) P = P tree
WhereTree Memory P = Unit {0}

-- what is done behind the outermost block of a build file, and behind that of a file that is imported
abbrev pub load_ends : Steps (Unit {0})
load_ends env out = checked_end (reported_here env) tt env env out

abbrev pub import_ends : Steps ImportState
import_ends env out = ends (import_left env) env out

-- the rest of a file, from what is kept of it on
abbrev pub rest_then : {A : Type 0} → Steps A → PausedFile → Answers → Run (Left A)
rest_then next p a = then_do (rest_runs p a) (λ _ env out. next env out)

-- the questions that were asked, as is answered for a key
abbrev pub asked_of : Evaluated → List Question
asked_of (Setup value effects) = effects.asked
asked_of (Load effects) = effects.asked
asked_of (Import value effects) = effects.asked
asked_of (Wrong fault asked) = map question_of asked.items
asked_of (Spoiled path place asked) = map question_of asked.items

-- what is answered for the end of a file is how that ends, with all that was asked before; or memory was wanting
abbrev pub IsEnd : {A : Type 0} → (Evaluated → End (Left A) → Type 0) → Result Evaluated EvalStop → Run (Left A) → Type 0
IsEnd Is (Ok unit) run = Is unit run.end × (run.asked ≡ asked_of unit)
IsEnd Is (Err (Stopped asked)) run = ⊥
IsEnd Is (Err (Paused p)) run = ⊥
IsEnd Is (Err (Again tree asked)) run = ⊥
IsEnd Is (Err Memory) run = Unit {0}

-- what is kept of an execution, behind whose outermost block this is done, is its rest over all answers that include those told
pub record Keeps {A : Type 0} (next : Steps A) (told : Option Answers) (run : Answers → Run (Left A)) (p : PausedFile) : Type 0 where
  pub shallow : IsShallow p.tree
  pub rest : (a : Answers) → Includes told a → run a ≡ rest_then next p a

-- an execution over a library comes to this, behind whose outermost block this is done: what is answered is how it ends over all answers that include those
-- told, and what it asked; where the library has stopped, it needs just what was noted, a stop was counted, and what is kept is the rest
pub record Executes {A : Type 0} (Is : Evaluated → End (Left A) → Type 0) (next : Steps A) (before after : LibraryState) (result : Result Evaluated EvalStop) (run : Answers → Run (Left A)) : Type 0 where
  pub unit : IfOk result (λ unit. (a : Answers) → Includes after.told a → Is unit (run a).end)
  pub asked : IfOk result (λ unit. (a : Answers) → Includes after.told a → (run a).asked ≡ asked_of unit)
  pub need : IfErr result (λ stop. WhereStopped stop (λ asked. (a : Answers) → after.told ≡ Some a → IsNeeded after.need asked (run a)))
  pub kept : IfErr result (λ stop. WherePaused stop (Keeps next after.told run))
  pub goes : GoesOn before after
  pub rose : IfErr result (λ stop. WhereStopped stop (λ asked. before.stops < after.stops))

-- the end of an execution that has left nothing, with the questions asked
abbrev pub ended_with : EvalEnd → Vec Asked Global → Result Evaluated EvalStop
ended_with (ending.Wrong fault) asked = Ok (Wrong fault asked)
ended_with (ending.Spoiled path place) asked = Ok (Spoiled path place asked)
ended_with ending.Stopped asked = Err (Stopped asked)
ended_with ending.Memory asked = Err Memory

-- the same of one whose file was read as this tree, which is kept where the library has stopped
abbrev pub failed_with : EvalEnd → Vec Asked Global → BlockTree → Result Evaluated EvalStop
failed_with (ending.Wrong fault) asked tree = Ok (Wrong fault asked)
failed_with (ending.Spoiled path place) asked tree = Ok (Spoiled path place asked)
failed_with ending.Stopped asked tree = Err (Again tree asked)
failed_with ending.Memory asked tree = Err Memory

-- the same of what a key names over a base
abbrev pub IsUnitOf : BaseState → Key → Evaluated → Answers → Type 0
IsUnitOf base (ImportKey when toolchain path) unit answers = IsImportOf unit (import_execution base when toolchain path answers).end
IsUnitOf base (SetupKey toolchain) unit answers = IsSetupOf unit (setup_execution base toolchain answers).end
IsUnitOf base (LoadKey directory toolchain) unit answers = IsLoadOf unit (found_load_execution base directory toolchain answers).end
IsUnitOf base _ unit answers = ⊥

-- over these answers what a key names needs what was noted
abbrev pub IsNeedOf : BaseState → Key → Need → List Question → Answers → Type 0
IsNeedOf base (ImportKey when toolchain path) need asked answers = IsNeeded need asked (import_execution base when toolchain path answers)
IsNeedOf base (SetupKey toolchain) need asked answers = IsNeeded need asked (setup_execution base toolchain answers)
IsNeedOf base (LoadKey directory toolchain) need asked answers = IsNeeded need asked (found_load_execution base directory toolchain answers)
IsNeedOf base _ need asked answers = ⊥

-- they are those of its execution over these answers, in order
abbrev pub HasAskedOf : BaseState → Key → Evaluated → Answers → Type 0
HasAskedOf base (ImportKey when toolchain path) unit answers = (import_execution base when toolchain path answers).asked ≡ asked_of unit
HasAskedOf base (SetupKey toolchain) unit answers = (setup_execution base toolchain answers).asked ≡ asked_of unit
HasAskedOf base (LoadKey directory toolchain) unit answers = (found_load_execution base directory toolchain answers).asked ≡ asked_of unit
HasAskedOf base _ unit answers = ⊥

-- what is kept of the execution of what a key names is its rest over these answers
abbrev pub IsRestOf : BaseState → Key → PausedFile → Answers → Type 0
IsRestOf base (ImportKey when toolchain path) p answers = import_execution base when toolchain path answers ≡ rest_then import_ends p answers
IsRestOf base (SetupKey toolchain) p answers = setup_execution base toolchain answers ≡ rest_then configuration_ends p answers
IsRestOf base (LoadKey directory toolchain) p answers = found_load_execution base directory toolchain answers ≡ rest_then load_ends p answers
IsRestOf base _ p answers = ⊥

-- it is that over all answers that include those told
pub record IsKept (base : BaseState) (key : Key) (told : Option Answers) (p : PausedFile) : Type 0 where
  pub shallow : IsShallow p.tree
  pub rest : (a : Answers) → Includes told a → IsRestOf base key p a

-- what is kept later is the rest too, over all answers that include those told over which what was kept before is
pub record KeepsOn (key : Key) (told : Option Answers) (p later : PausedFile) : Type 0 where
  pub shallow : IsShallow later.tree
  pub rest : (base : BaseState) (a : Answers) → Includes told a → IsRestOf base key p a → IsRestOf base key later a

-- over these answers the file of what a key names is read as this tree
abbrev pub IsTreeOf : BaseState → Key → BlockTree → Answers → Type 0
IsTreeOf base (ImportKey when toolchain path) tree answers = LeavesTree tree (import_reads base when toolchain path answers)
IsTreeOf base (SetupKey toolchain) tree answers = LeavesTree tree (setup_reads base toolchain answers)
IsTreeOf base (LoadKey directory toolchain) tree answers = LeavesTree tree (load_reads base directory toolchain answers)
IsTreeOf base _ tree answers = ⊥

-- it is over all answers that include those told
abbrev pub IsRead : BaseState → Key → Option Answers → BlockTree → Type 0
IsRead base key told tree = IsShallow tree × ((a : Answers) → Includes told a → IsTreeOf base key tree a)
