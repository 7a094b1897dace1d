use Rattle.gn_orders.proofs.Executions.{imports_so, values_left_so, setups_so, loads_so, files_alone_so, arguments_so}
use Rattle.gn_orders.proofs.laws.executions_end_in_order.Goals as goal

pub returns-clause-imports : goal.returns-clause-imports
returns-clause-imports c = imports_so

pub returns-clause-values : goal.returns-clause-values
returns-clause-values c = values_left_so

pub returns-clause-setups : goal.returns-clause-setups
returns-clause-setups c = setups_so

pub returns-clause-loads : goal.returns-clause-loads
returns-clause-loads c = loads_so

pub returns-clause-alone : goal.returns-clause-alone
returns-clause-alone c = files_alone_so

pub returns-clause-arguments : goal.returns-clause-arguments
returns-clause-arguments c = arguments_so
