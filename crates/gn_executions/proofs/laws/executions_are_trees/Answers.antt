use Rattle.gn_executions.proofs.ExecutionTrees.{import_meaning_tree, load_execution_tree, setup_execution_tree, absent_import}
use Rattle.gn_executions.proofs.laws.executions_are_trees.Goals as goal

pub returns-clause-imports : goal.returns-clause-imports
returns-clause-imports c = import_meaning_tree

pub returns-clause-loads : goal.returns-clause-loads
returns-clause-loads c = load_execution_tree

pub returns-clause-absent : goal.returns-clause-absent
returns-clause-absent c = absent_import

pub returns-clause-setups : goal.returns-clause-setups
returns-clause-setups c = setup_execution_tree
