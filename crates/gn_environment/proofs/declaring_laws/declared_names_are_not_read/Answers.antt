use Rattle.gn_environment.proofs.DeclaredNames.{declared_here_is_not_read}
use Rattle.gn_environment.proofs.declaring_laws.declared_names_are_not_read.Goals as goal

pub returns : goal.returns
returns c = declared_here_is_not_read
