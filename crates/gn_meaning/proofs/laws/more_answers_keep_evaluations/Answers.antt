use Rattle.gn_runs.proofs.TreeLaws.{tree_stays_settled, tree_stays_in_need, tree_asks_more}
use Rattle.gn_meaning.proofs.ImportTrees.{evaluation_tree}
use Rattle.gn_meaning.proofs.laws.more_answers_keep_evaluations.Goals as goal

pub returns-clause-settled : goal.returns-clause-settled
returns-clause-settled c e = tree_stays_settled _ (evaluation_tree e)

pub returns-clause-needs : goal.returns-clause-needs
returns-clause-needs c e = tree_stays_in_need _ (evaluation_tree e)

pub returns-clause-asked : goal.returns-clause-asked
returns-clause-asked c e = tree_asks_more _ (evaluation_tree e)
