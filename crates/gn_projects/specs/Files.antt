-- Files, and how what loading finds out of them is told: contents, what executions leave, and the imports of a layer.
use Rattle.std.specs.Prelude.{ℕ, List, [], if◌then◌else◌, Option, Some, None}
use Rattle.std.specs.List.{list_any}
use Rattle.std.specs.Str.{bytes_eq}
use Rattle.std.specs.FinMap.{keys}
use Rattle.gn_outside.specs.Tree.{Tree, Answer, Bytes, Absent, TooBig, read_of}
use Rattle.gn_definitions.specs.Imported.{ImportState}
use Rattle.gn_labels.specs.Labels.{spelling}
use Rattle.gn_items.specs.declared.default_toolchain.DefaultToolchain.{DefaultToolchain}
use Rattle.gn_items.specs.declared.key.When.{When}
use Rattle.gn_items.specs.declared.key.When.TheVariants.{Early, Usual}
use Rattle.gn_runs.specs.Runs.{Content, has_bytes, is_absent, is_too_big, Answers, End, ended, wrong, spoiled, needs, Run}
use Rattle.gn_meaning.specs.Steps.{Left}
use Rattle.gn_executions.specs.Alone.{nothing_left}
use Rattle.gn_executions.specs.Units.{import_execution}
use Rattle.gn_executions.specs.Base.{BaseState}
use Rattle.gn_core.specs.Keys.{Layer, early, usual, Leaving}

-- what a read answers, as an answer to an evaluation
abbrev pub content_in : Answer → Content
content_in (Bytes bytes) = has_bytes bytes
content_in Absent = is_absent
content_in TooBig = is_too_big

-- when imports of a layer are executed, and under which toolchain
abbrev pub when_of : Layer → When
when_of (early toolchain) = Early
when_of (usual toolchain) = Usual

abbrev pub toolchain_of : Layer → List ℕ
toolchain_of (early toolchain) = toolchain
toolchain_of (usual toolchain) = toolchain

-- what an execution leaves beside its environment
abbrev pub left_end : {A B : Type 0} → (A → B) → End (Left A) → End (Leaving B)
left_end f (ended left) = ended (record { value = f left.value; effects = left.effects })
left_end f (wrong fault) = wrong fault
left_end f (spoiled path place) = spoiled path place
left_end f (needs question place) = needs question place

abbrev pub left_run : {A B : Type 0} → (A → B) → Run (Left A) → Run (Leaving B)
left_run f run = record { end = left_end f run.end; asked = run.asked }

-- the text of the default toolchain, which a build configuration has named
abbrev pub toolchain_text : Option DefaultToolchain → List ℕ
toolchain_text (Some named) = spelling named.label.dir named.label.name
toolchain_text None = []

abbrev pub beneath_of : Option ImportState → ImportState
beneath_of (Some value) = value
beneath_of None = nothing_left

abbrev pub import_of_layer : BaseState → Layer → List ℕ → Answers → Run (Leaving ImportState)
import_of_layer base l path answers = left_run (λ value. value) (import_execution base (when_of l) (toolchain_of l) path answers)

-- the base with which a build starts, that of its build configuration, and what there is at some paths: nothing is at any other
pub record Files : Type 0 where
  pub start : BaseState
  pub given : List ℕ → Content
  pub paths : List (List ℕ)

abbrev pub content_at : Files → List ℕ → Content
content_at files path = if list_any (bytes_eq path) files.paths then files.given path else is_absent

-- the files of a tree. A source that tells no tree has read files too, and loading goes on by them
abbrev pub files_of : BaseState → Tree → Files
files_of start tree = record { start = start; given = λ path. content_in (read_of tree path); paths = keys tree }
