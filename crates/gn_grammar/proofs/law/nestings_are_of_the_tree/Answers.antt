use Rattle.gn_grammar.proofs.Nestings.{nestings_of_tree, nestings_of_expr}
use Rattle.gn_grammar.proofs.law.nestings_are_of_the_tree.Goals as goal

pub returns-clause-file : goal.returns-clause-file
returns-clause-file c = nestings_of_tree

pub returns-clause-expression : goal.returns-clause-expression
returns-clause-expression c = nestings_of_expr
