-- What the execution of a build configuration, of a build file or of an import over a part comes to.
use Rattle.std.specs.Prelude.{◌≡◌, ℕ, List, Option, Some}
use Rattle.gn_definitions.specs.Imported.{ImportState}
use Rattle.gn_items.specs.declared.key.Key.{Key as Named}
use Rattle.gn_runs.specs.Runs.{Answers, Run}
use Rattle.gn_eval.specs.Library.{Need}
use Rattle.gn_executions.specs.Base.{BaseState}
use Rattle.gn_meaning.specs.Steps.{Left}
use Rattle.gn_unit.specs.Ends.{IsLoadOf, IsSetupOf, IsUnitOf, IsNeedOf, HasAskedOf, asked_of}
use Rattle.gn_unit.specs.declared.unit.Unit.{Unit as Evaluated}
use Rattle.gn_unit.specs.declared.unit.Unit.TheVariants as unit
use Rattle.gn_core.specs.Keys.{Layer, Filed, Leaving, key_of}
use Rattle.gn_core.specs.Machine.{IsRightImport}
use Rattle.gn_book.specs.Keys.{key_of as named_by}
use Rattle.gn_projects.specs.Worlds.{unit_run, configuration_leaves, file_leaves}
use Rattle.gn_answers.specs.Answers.{run_of, unit_left, meaning_of}
use Rattle.gn_builds.specs.Working.{over}
use Rattle.gn_told.specs.Told.{need_view}
use Rattle.gn_perform.specs.Kept.{asked_so_far, KeepsOver}
use Rattle.gn_perform.specs.declared.kept.Kept.{Kept}
use Rattle.gn_answers.specs.declared.answer.Executed.{Executed}
use Rattle.gn_answers.specs.declared.answer.Filed.{Filed as FiledAnswer}
use Rattle.gn_perform.specs.declared.evaluating.Ran.{Ran}
use Rattle.gn_perform.specs.declared.evaluating.Ran.TheVariants.{Ended, Lacks}
use Rattle.gn_perform.specs.declared.work.Performed.{Performed}
use Rattle.gn_perform.specs.declared.work.Performed.TheVariants.{Answered, Needs}

-- the execution that a key names has ended over these answers, or needs another one, and what is kept is its rest
abbrev pub IsRan : BaseState → Named → Answers → Ran → Type 0
IsRan base key a (Ended unit) = IsUnitOf base key unit a × HasAskedOf base key unit a
IsRan base key a (Lacks need kept) = IsNeedOf base key (need_view need) (asked_so_far kept) a × KeepsOver base key (Some a) kept

-- what a build file leaves, and what one that is imported leaves
abbrev pub IsBuildFile : Evaluated → Type 0
IsBuildFile (unit.Setup value effects) = ⊥
IsBuildFile (unit.Load effects) = Unit {0}
IsBuildFile (unit.Import value effects) = ⊥
IsBuildFile (unit.Wrong fault asked) = Unit {0}
IsBuildFile (unit.Spoiled path place asked) = Unit {0}

abbrev pub IsConfiguration : Evaluated → Type 0
IsConfiguration (unit.Setup value effects) = Unit {0}
IsConfiguration (unit.Load effects) = ⊥
IsConfiguration (unit.Import value effects) = ⊥
IsConfiguration (unit.Wrong fault asked) = Unit {0}
IsConfiguration (unit.Spoiled path place asked) = Unit {0}

abbrev pub IsImported : Evaluated → Type 0
IsImported (unit.Setup value effects) = ⊥
IsImported (unit.Load effects) = ⊥
IsImported (unit.Import value effects) = Unit {0}
IsImported (unit.Wrong fault asked) = Unit {0}
IsImported (unit.Spoiled path place asked) = Unit {0}

-- as a run
abbrev pub IsLoadExecuted : Evaluated → Executed (Option ImportState) → Type 0
IsLoadExecuted u executed =
    (run : Run (Left (Unit {0}))) → IsLoadOf u run.end → run.asked ≡ asked_of u → run_of unit_left executed ≡ unit_run file_leaves run

abbrev pub IsSetupExecuted : Evaluated → Executed (Option ImportState) → Type 0
IsSetupExecuted u executed =
    (run : Run (Left ImportState)) → IsSetupOf u run.end → run.asked ≡ asked_of u → run_of unit_left executed ≡ unit_run configuration_leaves run

-- what is filed of the execution of an import is right over the part
abbrev pub IsImportFiled : Filed → Layer → Run (Leaving ImportState) → FiledAnswer → Type 0
IsImportFiled part l run filed = (path : List ℕ) → IsRightImport (over part) l path run run.end (meaning_of filed)

-- an evaluation of a layer needs what was noted, and this is kept of it
abbrev pub IsLacking : Layer → Need → Kept → Performed → Type 0
IsLacking l need kept (Answered filed) = ⊥
IsLacking l need kept (Needs on place same) = (named_by on ≡ key_of l need.question) × (place ≡ need.place) × (same ≡ kept)
