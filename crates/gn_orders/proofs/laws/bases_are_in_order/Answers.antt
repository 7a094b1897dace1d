use Rattle.gn_orders.proofs.Executions.{plain_base_so, early_bases_so, later_bases_so}
use Rattle.gn_orders.proofs.laws.bases_are_in_order.Goals as goal

pub returns-clause-plain : goal.returns-clause-plain
returns-clause-plain c = plain_base_so

pub returns-clause-early : goal.returns-clause-early
returns-clause-early c = early_bases_so

pub returns-clause-later : goal.returns-clause-later
returns-clause-later c = later_bases_so
