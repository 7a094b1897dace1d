use Rattle.gn_environment.proofs.Surroundings.{body_ends_keep}
use Rattle.gn_environment.proofs.surrounding_laws.bodies_leave_their_surroundings.Goals as goal

pub returns : goal.returns
returns c = body_ends_keep
