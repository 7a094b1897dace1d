use Rattle.gn_projects.proofs.Quiet.{quiet_has_faults, quiet_has_error}
use Rattle.gn_projects.proofs.laws.errors_are_filed.Goals as goal

pub returns-clause-faults : goal.returns-clause-faults
returns-clause-faults c = quiet_has_faults

pub returns-clause-error : goal.returns-clause-error
returns-clause-error c = quiet_has_error (record { strict = c.fault_order_is_strict.ensures; transitive = c.fault_order_is_transitive.ensures; total = c.fault_order_has_no_ties.ensures })
