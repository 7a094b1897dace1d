use Rattle.std.proofs.Common.{refl}
use Rattle.gn_environment.specs.Environment.{entered, left}
use Rattle.gn_environment.proofs.laws.scopes_end_where_they_began.Goals as goal

pub returns : goal.returns
unfolding entered left
returns c = λ checked env. refl
