-- What the execution of a build file means that is looked for as a build configuration is: at its path, and where nothing is there below the secondary
-- source tree.
use Rattle.std.specs.Prelude.{ℕ, List}
use Rattle.gn_items.specs.Effects.{Effects, no_effects}
use Rattle.gn_runs.specs.Runs.{Answers, Run}
use Rattle.gn_meaning.specs.Steps.{Left, then_do}
use Rattle.gn_meaning.specs.Meaning.{file_runs}
use Rattle.gn_executions.specs.Units.{build_file_of, load_begins}
use Rattle.gn_executions.specs.Setups.{secondary_tree_runs}
use Rattle.gn_executions.specs.Base.{BaseState}

unfoldable pub found_load_runs : BaseState → List ℕ → List ℕ → Answers → Effects → Run (Left (Unit {0}))
found_load_runs base directory toolchain answers out =
    then_do (secondary_tree_runs base.secondary answers (load_begins base directory toolchain (build_file_of directory)) out) (λ tree env1 out1. file_runs answers tree env1 out1)

-- the execution of the build file of a directory under a toolchain; in the secondary tree it keeps its directory, and its places have the path at which it
-- was found
abbrev pub found_load_execution : BaseState → List ℕ → List ℕ → Answers → Run (Left (Unit {0}))
found_load_execution base directory toolchain answers = found_load_runs base directory toolchain answers no_effects
