use Rattle.gn_orders.proofs.Consequences.{blocks_so, expressions_so, calls_so}
use Rattle.gn_orders.proofs.laws.evaluations_stay_in_order.Goals as goal

pub returns-clause-blocks : goal.returns-clause-blocks
returns-clause-blocks c = blocks_so

pub returns-clause-expressions : goal.returns-clause-expressions
returns-clause-expressions c = expressions_so

pub returns-clause-calls : goal.returns-clause-calls
returns-clause-calls c = calls_so
