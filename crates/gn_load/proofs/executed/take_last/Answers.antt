use Rattle.gn_load.proofs.ExecutedLemmas.{takes_last}
use Rattle.gn_load.proofs.executed.take_last.Goals as goal

pub returns-in-Some-pop : goal.returns-in-Some-pop
returns-in-Some-pop c = takes_last _ _ _ _ _ c.beside_answer.result c.in-Some-pop.ensures.items c.beside_answer.ensures
