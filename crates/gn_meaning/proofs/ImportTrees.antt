-- Whole blocks, files, imported files and build configurations are trees of questions.
use Rattle.gn_tree.specs.Tree.{BlockTree}
use Rattle.gn_items.specs.Effects.{Effects}
use Rattle.gn_runs.specs.Runs.{IsTree}
use Rattle.gn_environment.specs.Environment.{Environment, reported_here}
use Rattle.gn_meaning.specs.Steps.{max_evaluation_depth}
use Rattle.gn_meaning.specs.Meaning.{whole_block_runs, file_runs, import_file_runs, lacks_toolchain, configuration_ends, configuration_file_runs}
use Rattle.gn_meaning.specs.Laws.{unasked, Evaluation, of_block, of_file, meaning_of, ImportsAreTrees}
use Rattle.gn_meaning.proofs.Steps.{IsTreeBehind, AreQuiet, whole_tree, tree_do, tree_ends, tree_fails, tree_if}
use Rattle.gn_meaning.proofs.Calls.{checked_tree}
use Rattle.gn_meaning.proofs.Evaluations.{block_tree, calls_tree, reads_tree}

pub whole_block_tree : (b : BlockTree) (env : Environment) (out : Effects) → IsTreeBehind out.asked (λ a. whole_block_runs a b env out)
unfolding whole_block_runs
whole_block_tree b env out = block_tree max_evaluation_depth (calls_tree max_evaluation_depth) (reads_tree max_evaluation_depth) 0 b env out

pub file_tree : (b : BlockTree) (env : Environment) (out : Effects) → IsTreeBehind out.asked (λ a. file_runs a b env out)
unfolding file_runs
file_tree b env out = tree_do _ _ (whole_block_tree b env out) (λ _ env1 out1. checked_tree (reported_here env1) tt env1 env1 out1)

pub import_file_tree : (b : BlockTree) (env : Environment) (out : Effects) → IsTreeBehind out.asked (λ a. import_file_runs a b env out)
unfolding import_file_runs
import_file_tree b env out = tree_do _ _ (whole_block_tree b env out) (λ _ env1 out1. tree_ends _ env1 out1)

configuration_ends_tree : AreQuiet configuration_ends
unfolding configuration_ends
configuration_ends_tree env out =
    tree_if (lacks_toolchain env.setting.context.toolchain out.default_toolchain) _ _ (tree_fails _ out) (tree_ends _ env out)

pub configuration_file_tree : (b : BlockTree) (env : Environment) (out : Effects) → IsTreeBehind out.asked (λ a. configuration_file_runs a b env out)
unfolding configuration_file_runs
configuration_file_tree b env out = tree_do _ _ (whole_block_tree b env out) (λ _ env1 out1. configuration_ends_tree env1 out1)

-- each evaluation before which nothing was asked
pub evaluation_tree : (e : Evaluation) → IsTree (meaning_of e)
evaluation_tree (of_block b env out) = whole_tree _ (whole_block_tree b env (unasked out))
evaluation_tree (of_file b env out) = whole_tree _ (file_tree b env (unasked out))

pub whole_import_tree : ImportsAreTrees
whole_import_tree b env out = whole_tree _ (import_file_tree b env (unasked out))
