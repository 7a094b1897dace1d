use Rattle.gn_prepared.proofs.Copied.{copies}
use Rattle.gn_prepared.proofs.shared.copies_are_shared.Goals as goal

pub returns : goal.returns
returns c = copies c.answers_cross.ensures.answer
