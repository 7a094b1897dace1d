use Rattle.gn_environment.proofs.Surroundings.{declaring_left_keeps}
use Rattle.gn_environment.proofs.SurroundingsOfCalls.{arguments_declared_leave}
use Rattle.gn_environment.proofs.surrounding_laws.declaring_scopes_leave_their_surroundings.Goals as goal

pub returns-clause-scope : goal.returns-clause-scope
returns-clause-scope c = declaring_left_keeps

pub returns-clause-declared : goal.returns-clause-declared
returns-clause-declared c = arguments_declared_leave
