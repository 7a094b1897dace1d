-- The evaluations of which the laws of runs hold.
use Rattle.std.specs.Prelude.{[]}
use Rattle.gn_tree.specs.Tree.{BlockTree}
use Rattle.gn_items.specs.Effects.{Effects}
use Rattle.gn_environment.specs.Environment.{Environment}
use Rattle.gn_runs.specs.Runs.{Answers, Run, IsTree}
use Rattle.gn_meaning.specs.Steps.{Left}
use Rattle.gn_meaning.specs.Meaning.{whole_block_runs, file_runs, import_file_runs}

-- effects before which nothing was asked
abbrev pub unasked : Effects → Effects
unasked out = record out { asked = [] }

-- an evaluation that leaves nothing but an environment and effects: of a block, or of a whole file whose scope is checked
pub data Evaluation : Type 0 where
  of_block : (block : BlockTree) (environment : Environment) (effects : Effects) → Evaluation
  of_file : (block : BlockTree) (environment : Environment) (effects : Effects) → Evaluation

-- its run over known answers, where nothing was asked before
abbrev pub meaning_of : Evaluation → Answers → Run (Left (Unit {0}))
meaning_of (of_block b env out) answers = whole_block_runs answers b env (unasked out)
meaning_of (of_file b env out) answers = file_runs answers b env (unasked out)

-- the run of a file that is imported is a tree of questions
abbrev pub ImportsAreTrees : Type 0
ImportsAreTrees = (block : BlockTree) (env : Environment) (out : Effects) → IsTree (λ answers. import_file_runs answers block env (unasked out))
