-- What is filed, as the answers of loading.
use Rattle.std.specs.Prelude.{map, Option, Some, None}
use Rattle.gn_definitions.specs.Imported.{ImportState}
use Rattle.gn_items.specs.Effects.{Effects}
use Rattle.gn_items.specs.Questions.{question_of}
use Rattle.gn_runs.specs.Runs.{Content, has_bytes, is_absent, is_too_big, End, ended, wrong, spoiled, needs, Run}
use Rattle.gn_closure.specs.Reach.{Done}
use Rattle.gn_core.specs.Keys.{Answer, found, import_is, no_value, unit_is, Leaving, UnitLeft}
use Rattle.gn_projects.specs.Needs.{file_needs, configuration_needs}
use Rattle.gn_answers.specs.declared.answer.FileContent.{FileContent}
use Rattle.gn_answers.specs.declared.answer.FileContent.TheVariants.{Bytes, Absent, TooBig}
use Rattle.gn_answers.specs.declared.answer.Executed.{Executed}
use Rattle.gn_answers.specs.declared.answer.Executed.TheVariants.{Left, Wrong, Spoiled}
use Rattle.gn_answers.specs.declared.answer.Filed.{Filed}
use Rattle.gn_answers.specs.declared.answer.Filed.TheVariants.{Content as content_filed, Import as import_filed, Unit as unit_filed, NoValue}

-- what there is at a path
abbrev pub content_view : FileContent → Content
content_view (Bytes file) = has_bytes file.value.bytes
content_view Absent = is_absent
content_view TooBig = is_too_big

-- how an execution has ended, as a run: what it leaves is made of its value and of its effects
abbrev pub run_of : {A B : Type 0} → (A → Effects → B) → Executed A → Run (Leaving B)
run_of f (Left value effects) = record { end = ended (record { value = f value effects; effects = effects }); asked = effects.asked }
run_of f (Wrong fault asked) = record { end = wrong fault; asked = map question_of asked.items }
run_of f (Spoiled path place asked) = record { end = spoiled path place; asked = map question_of asked.items }

-- what a unit needs that has left this: a build configuration leaves what stands beneath the files behind it, and a build file has items
abbrev pub needs_of : Option ImportState → Effects → Done
needs_of (Some value) effects = configuration_needs effects.default_toolchain
needs_of None effects = file_needs effects.items

-- what a unit has left
abbrev pub unit_left : Option ImportState → Effects → UnitLeft
unit_left beneath effects = record { needs = needs_of beneath effects; beneath = beneath }

-- what is filed, as the answer of a key
abbrev pub meaning_of : Filed → Answer
meaning_of (content_filed content) = found (content_view content)
meaning_of (import_filed executed) = import_is (run_of (λ value effects. value) executed)
meaning_of (unit_filed executed) = unit_is (run_of unit_left executed)
meaning_of (NoValue path place asked) = no_value path place (map question_of asked.items)

-- the answer of a unit, as a run
abbrev pub unit_run : Option Answer → Option (Run (Leaving UnitLeft))
unit_run (Some (unit_is run)) = Some run
unit_run _ = None

-- what it has left, if it has ended
abbrev pub left_in : {A : Type 0} → End (Leaving A) → Option Effects
left_in (ended left) = Some left.effects
left_in (wrong fault) = None
left_in (spoiled path place) = None
left_in (needs question place) = None

abbrev pub left_by : Option (Run (Leaving UnitLeft)) → Option Effects
left_by None = None
left_by (Some run) = left_in run.end
