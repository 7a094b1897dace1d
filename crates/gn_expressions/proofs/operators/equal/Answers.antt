use Rattle.gn_value_model.proofs.Equality.{test_from_answer}
use Rattle.gn_expressions.proofs.operators.equal.Goals as goal

pub returns : goal.returns
returns c = test_from_answer _ _ _ c.same.ensures
