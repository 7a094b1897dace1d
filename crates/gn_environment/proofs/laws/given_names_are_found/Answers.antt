use Rattle.gn_environment.proofs.Found.{value_of-given}
use Rattle.gn_environment.proofs.laws.given_names_are_found.Goals as goal

pub returns : goal.returns
returns c = value_of-given
