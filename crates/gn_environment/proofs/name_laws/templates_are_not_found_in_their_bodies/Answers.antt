use Rattle.gn_environment.proofs.WithinBodies.{not_found_within}
use Rattle.gn_environment.proofs.name_laws.templates_are_not_found_in_their_bodies.Goals as goal

pub returns : goal.returns
returns c = not_found_within
