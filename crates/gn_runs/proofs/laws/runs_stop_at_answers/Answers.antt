use Rattle.gn_runs.proofs.TreeLaws.{tree_needs_unknown, tree_asks_known, tree_spoiled_by_unusable, tree_unusable_spoils}
use Rattle.gn_runs.proofs.laws.runs_stop_at_answers.Goals as goal

pub returns-clause-needs : goal.returns-clause-needs
returns-clause-needs c = tree_needs_unknown

pub returns-clause-known : goal.returns-clause-known
returns-clause-known c = tree_asks_known

pub returns-clause-spoiled : goal.returns-clause-spoiled
returns-clause-spoiled c = tree_spoiled_by_unusable

pub returns-clause-unusable : goal.returns-clause-unusable
returns-clause-unusable c = tree_unusable_spoils
