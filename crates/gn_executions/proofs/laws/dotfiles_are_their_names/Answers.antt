use Rattle.gn_executions.proofs.DotfileNames.{dotfile_is}
use Rattle.gn_executions.proofs.laws.dotfiles_are_their_names.Goals as goal

pub returns : goal.returns
returns c = dotfile_is
