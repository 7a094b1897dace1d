use Rattle.gn_text.specs.Marks.{IsMarked}
use Rattle.gn_text.proofs.MarksLemmas.{bit_tested}
use Rattle.gn_text.proofs.marks.Marks.has.Goals as goal

pub returns : goal.returns
unfolding IsMarked
returns c = rw c.mark_of.ensures (bit_tested _ _)
