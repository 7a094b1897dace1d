use Rattle.gn_environment.proofs.DeclaredNames.{undeclared_is_read}
use Rattle.gn_environment.proofs.declaring_laws.undeclared_names_are_read.Goals as goal

pub returns : goal.returns
returns c = undeclared_is_read
