-- Where the execution of a whole file begins.
use Rattle.std.specs.Prelude.{◌≡◌, ℕ, List, Option, Result, Ok, Err}
use Rattle.gn_tree.specs.Tree.{BlockTree}
use Rattle.gn_tree.specs.Depth.{IsShallow}
use Rattle.gn_items.specs.Effects.{Effects, no_effects}
use Rattle.gn_items.specs.declared.key.When.{When}
use Rattle.gn_runs.specs.Runs.{Answers, Run}
use Rattle.gn_environment.specs.Environment.{Environment}
use Rattle.gn_meaning.specs.Steps.{Left, ends}
use Rattle.gn_eval.specs.Library.{Need, LibraryState, Includes}
use Rattle.gn_eval.specs.Ends.{IsFailure, Claims}
use Rattle.gn_eval.specs.declared.ending.EvalEnd.{EvalEnd}
use Rattle.gn_executions.specs.Base.{BaseState}
use Rattle.gn_executions.specs.Units.{tree_runs, build_file_of, import_begins, load_begins}
use Rattle.gn_executions.specs.Setups.{secondary_tree_runs, setup_begins}

-- the tree of the file, and the environment in which it is to run; or there is none
abbrev pub BeginsAs : Need → Result (BlockTree × Environment) EvalEnd → Effects → Run (Left BlockTree) → Type 0
BeginsAs need (Ok begun) out run = run ≡ ends begun.0 begun.1 out
BeginsAs need (Err e) out run = IsFailure need e out run

abbrev pub Begins : LibraryState → LibraryState → Result (BlockTree × Environment) EvalEnd → Effects → (Answers → Run (Left BlockTree)) → Type 0
Begins before after result out run = Claims before after result (λ a. BeginsAs after.need result out (run a))

-- a file is read as this tree
abbrev pub LeavesTree : BlockTree → Run (Left BlockTree) → Type 0
LeavesTree tree run = (env : Environment) × (out : Effects) × (run ≡ ends tree env out)

-- a tree that is kept is the one that the file is read as, over all answers that include those told
abbrev pub Reads : Option Answers → (Answers → Run (Left BlockTree)) → BlockTree → Type 0
Reads told run tree = IsShallow tree × ((a : Answers) → Includes told a → LeavesTree tree (run a))

-- how the file is read whose execution begins: the build file of a directory, the build configuration, and a file that is imported
abbrev pub load_reads : BaseState → List ℕ → List ℕ → Answers → Run (Left BlockTree)
load_reads base directory toolchain a = secondary_tree_runs base.secondary a (load_begins base directory toolchain (build_file_of directory)) no_effects

abbrev pub setup_reads : BaseState → List ℕ → Answers → Run (Left BlockTree)
setup_reads base toolchain a = secondary_tree_runs base.secondary a (setup_begins base toolchain) no_effects

abbrev pub import_reads : BaseState → When → List ℕ → List ℕ → Answers → Run (Left BlockTree)
import_reads base when toolchain path a = tree_runs a (import_begins base when toolchain path) no_effects
