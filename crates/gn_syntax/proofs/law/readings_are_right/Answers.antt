use Rattle.gn_syntax.proofs.Readings.{reading_is_right, expr_reading_is_right, reading_is_only, expr_reading_is_only}
use Rattle.gn_syntax.proofs.law.readings_are_right.Goals as goal

pub returns-clause-file : goal.returns-clause-file
returns-clause-file c = reading_is_right

pub returns-clause-expression : goal.returns-clause-expression
returns-clause-expression c = expr_reading_is_right

pub returns-clause-only_file : goal.returns-clause-only_file
returns-clause-only_file c = reading_is_only

pub returns-clause-only_expression : goal.returns-clause-only_expression
returns-clause-only_expression c = expr_reading_is_only
