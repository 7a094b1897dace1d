use Rattle.gn_grammar.proofs.Shallow.{is_shallow, is_shallow_expr}
use Rattle.gn_grammar.proofs.law.trees_are_shallow.Goals as goal

pub returns-clause-file : goal.returns-clause-file
returns-clause-file c = is_shallow

pub returns-clause-expression : goal.returns-clause-expression
returns-clause-expression c = is_shallow_expr
