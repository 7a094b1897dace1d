use Rattle.gn_grammar.proofs.OneAnswer.{one_expr_answer}
use Rattle.gn_grammar.proofs.law.each_expression_has_one_answer.Goals as goal

pub returns : goal.returns
returns c = one_expr_answer
