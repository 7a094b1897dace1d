use Rattle.gn_runs.proofs.TreeLaws.{tree_needs_unknown, tree_asks_known, tree_spoiled_by_unusable, tree_unusable_spoils}
use Rattle.gn_meaning.proofs.ImportTrees.{evaluation_tree}
use Rattle.gn_meaning.proofs.laws.evaluations_stop_at_answers.Goals as goal

pub returns-clause-needs : goal.returns-clause-needs
returns-clause-needs c e = tree_needs_unknown _ (evaluation_tree e)

pub returns-clause-known : goal.returns-clause-known
returns-clause-known c e = tree_asks_known _ (evaluation_tree e)

pub returns-clause-spoiled : goal.returns-clause-spoiled
returns-clause-spoiled c e = tree_spoiled_by_unusable _ (evaluation_tree e)

pub returns-clause-unusable : goal.returns-clause-unusable
returns-clause-unusable c e = tree_unusable_spoils _ (evaluation_tree e)
