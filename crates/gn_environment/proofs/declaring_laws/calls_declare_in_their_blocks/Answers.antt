use Rattle.gn_environment.proofs.DeclaredNames.{declares_nothing}
use Rattle.gn_environment.proofs.declaring_laws.calls_declare_in_their_blocks.Goals as goal

pub returns : goal.returns
returns c = declares_nothing
