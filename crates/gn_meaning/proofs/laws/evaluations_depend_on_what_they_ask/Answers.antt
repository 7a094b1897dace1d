use Rattle.gn_runs.proofs.TreeLaws.{tree_depends_on_asked}
use Rattle.gn_meaning.proofs.ImportTrees.{evaluation_tree}
use Rattle.gn_meaning.proofs.laws.evaluations_depend_on_what_they_ask.Goals as goal

pub returns : goal.returns
returns c e = tree_depends_on_asked _ (evaluation_tree e)
