use Rattle.gn_substs.proofs.JoinLemmas.{written_as}
use Rattle.gn_substs.proofs.law.pieces_are_the_text.Goals as goal

pub returns : goal.returns
returns c = written_as
