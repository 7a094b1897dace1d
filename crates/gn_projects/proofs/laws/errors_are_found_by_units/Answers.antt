use Rattle.gn_projects.proofs.Faults.{faults_are_found, error_is_found, no_error_is_done}
use Rattle.gn_projects.proofs.laws.errors_are_found_by_units.Goals as goal

pub returns-clause-faults : goal.returns-clause-faults
returns-clause-faults c = faults_are_found

pub returns-clause-error : goal.returns-clause-error
returns-clause-error c = error_is_found (record { strict = c.fault_order_is_strict.ensures; transitive = c.fault_order_is_transitive.ensures; total = c.fault_order_has_no_ties.ensures })

pub returns-clause-done : goal.returns-clause-done
returns-clause-done c = no_error_is_done
