use Rattle.gn_environment.proofs.Surroundings.{left_keeps}
use Rattle.gn_environment.proofs.surrounding_laws.scopes_leave_their_surroundings.Goals as goal

pub returns : goal.returns
returns c = left_keeps
