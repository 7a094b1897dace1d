use Rattle.gn_rules.proofs.Told.{told_again, again_told}
use Rattle.gn_rules.proofs.laws.what_is_told_is_made_again.Goals as goal

pub returns : goal.returns
returns c = λ made ts t p. (told_again made ts t p, again_told made ts t p)
