use Rattle.std.proofs.Common.{refl}
use Rattle.gn_environment.specs.Environment.{left}
use Rattle.gn_environment.specs.Declaring.{declaring_entered}
use Rattle.gn_environment.proofs.declaring_laws.declaring_scopes_end_where_they_began.Goals as goal

pub returns : goal.returns
unfolding declaring_entered left
returns c = λ env. refl
