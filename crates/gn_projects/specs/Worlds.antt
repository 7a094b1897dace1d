-- Whole builds as a world of loading: the build configuration and the build files of every toolchain, and what they import.
use Rattle.std.specs.Prelude.{ℕ, List, [], if◌then◌else◌, Some, None}
use Rattle.std.specs.Str.{bytes_eq}
use Rattle.gn_definitions.specs.Imported.{ImportState}
use Rattle.gn_meaning.specs.Steps.{Left}
use Rattle.gn_executions.specs.Base.{BaseState}
use Rattle.gn_executions.specs.Found.{found_load_execution}
use Rattle.gn_executions.specs.Setups.{setup_execution}
use Rattle.gn_imports.specs.Rounds.{Project, final}
use Rattle.gn_runs.specs.Runs.{Answers, End, ended, wrong, spoiled, needs, Run}
use Rattle.gn_closure.specs.Reach.{Unit_key, Setup, Load}
use Rattle.gn_graph.specs.Needs.{home}
use Rattle.gn_core.specs.Keys.{Layer, early, usual, Key, Read, Import, Unit_of, Resolve, Leaving, UnitLeft, layer_of, seen}
use Rattle.gn_core.specs.Worlds.{World}
use Rattle.gn_projects.specs.Files.{Files, content_at, import_of_layer}
use Rattle.gn_projects.specs.Bases.{left_of, default_in, base_of_layer}
use Rattle.gn_projects.specs.Needs.{file_needs, configuration_needs}

-- what is left by an execution, as its value and effects say
abbrev pub unit_end : {A : Type 0} → (Left A → UnitLeft) → End (Left A) → End (Leaving UnitLeft)
unit_end f (ended left) = ended (record { value = f left; effects = left.effects })
unit_end f (wrong fault) = wrong fault
unit_end f (spoiled path place) = spoiled path place
unit_end f (needs question place) = needs question place

abbrev pub unit_run : {A : Type 0} → (Left A → UnitLeft) → Run (Left A) → Run (Leaving UnitLeft)
unit_run f run = record { end = unit_end f run.end; asked = run.asked }

-- a build configuration leaves what stands beneath the files behind it, and names the default toolchain; a build file has items
abbrev pub configuration_leaves : Left ImportState → UnitLeft
configuration_leaves left = record { needs = configuration_needs left.effects.default_toolchain; beneath = Some left.value }

abbrev pub file_leaves : Left (Unit {0}) → UnitLeft
file_leaves left = record { needs = file_needs left.effects.items; beneath = None }

-- the evaluation of a unit over a base
abbrev pub unit_over : BaseState → Unit_key → Answers → Run (Leaving UnitLeft)
unit_over base (Setup toolchain) answers = unit_run configuration_leaves (setup_execution base toolchain answers)
unit_over base (Load dir toolchain) answers = unit_run file_leaves (found_load_execution base dir toolchain answers)

-- the imports of the build configuration of the default toolchain
abbrev pub early_project_of : Files → Project
early_project_of files = record {
  content = content_at files;
  paths = files.paths;
  execute = λ path answers. seen (import_of_layer files.start (early []) path answers);
}

-- the build configuration of the default toolchain over all answers, and that toolchain: the empty text where it isn't done
unfoldable pub setup_run : Files → Run (Leaving UnitLeft)
setup_run files = unit_over files.start (Setup []) (final (early_project_of files))

abbrev pub default_of : Files → List ℕ
default_of files = default_in (left_of (setup_run files).end)

-- A key sees what was finished in an earlier stage. The build configuration of the default toolchain sees nothing, the files behind it see it; the build
-- configuration of another toolchain sees the file that defines it, which is one of these, and the files behind that one see it too
abbrev pub stage_of_layer : List ℕ → Layer → ℕ
stage_of_layer default (early toolchain) = if bytes_eq toolchain [] then 0 else 2
stage_of_layer default (usual toolchain) = if bytes_eq toolchain default then 1 else 3

abbrev pub stage_of : List ℕ → Key → ℕ
stage_of default (Read path) = 0
stage_of default (Import l path) = stage_of_layer default l
stage_of default (Unit_of k) = stage_of_layer default (layer_of k)
stage_of default (Resolve label) = 4

-- the world over files. What is made of known items is left open
abbrev pub world_of : Files → World
world_of files = record {
  content = content_at files;
  paths = files.paths;
  import_run = λ l filed path answers. import_of_layer (base_of_layer files.start filed l) l path answers;
  unit_run = λ k filed answers. unit_over (base_of_layer files.start filed (layer_of k)) k answers;
  record_of = λ label filed. [];
  home = home;
  stage = stage_of (default_of files);
}
