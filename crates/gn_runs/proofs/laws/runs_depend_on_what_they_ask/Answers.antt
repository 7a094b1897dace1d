use Rattle.gn_runs.proofs.TreeLaws.{tree_depends_on_asked}
use Rattle.gn_runs.proofs.laws.runs_depend_on_what_they_ask.Goals as goal

pub returns : goal.returns
returns c = tree_depends_on_asked
