use Rattle.gn_labelled.proofs.Told.{told_stands_behind, behind_is_told}
use Rattle.gn_labelled.proofs.laws.each_repetition_is_told.Goals as goal

pub returns : goal.returns
returns c items x = (told_stands_behind items x, behind_is_told items x)
