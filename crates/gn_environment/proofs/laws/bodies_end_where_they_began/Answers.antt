use Rattle.std.proofs.Common.{refl}
use Rattle.gn_environment.specs.Environment.{given, left, restored}
use Rattle.gn_environment.specs.Templates.{body_begins, body_ends}
use Rattle.gn_environment.proofs.laws.bodies_end_where_they_began.Goals as goal

pub returns : goal.returns
unfolding given left restored body_begins body_ends
returns c = λ definition name env. refl
