use Rattle.gn_text.proofs.MarksLemmas.{none_marked}
use Rattle.gn_text.proofs.marks.Marks.new.Goals as goal

pub returns : goal.returns
returns c = none_marked
