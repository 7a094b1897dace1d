use Rattle.gn_meaning.proofs.ImportTrees.{evaluation_tree, whole_import_tree}
use Rattle.gn_meaning.proofs.laws.evaluations_are_trees.Goals as goal

pub returns-clause-blocks : goal.returns-clause-blocks
returns-clause-blocks c = evaluation_tree

pub returns-clause-imports : goal.returns-clause-imports
returns-clause-imports c = whole_import_tree
