use Rattle.std.proofs.Common.{refl}
use Rattle.gn_load.proofs.executed.beside_answer.Goals as goal

pub returns-in-Some : goal.returns-in-Some
returns-in-Some c = (refl, c.in-Some.ensures.items)
