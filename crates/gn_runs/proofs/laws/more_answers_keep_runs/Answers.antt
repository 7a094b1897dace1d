use Rattle.gn_runs.proofs.TreeLaws.{tree_stays_settled, tree_stays_in_need, tree_asks_more}
use Rattle.gn_runs.proofs.laws.more_answers_keep_runs.Goals as goal

pub returns-clause-settled : goal.returns-clause-settled
returns-clause-settled c = tree_stays_settled

pub returns-clause-needs : goal.returns-clause-needs
returns-clause-needs c = tree_stays_in_need

pub returns-clause-asked : goal.returns-clause-asked
returns-clause-asked c = tree_asks_more
