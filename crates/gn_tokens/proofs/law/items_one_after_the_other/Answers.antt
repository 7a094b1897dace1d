use Rattle.gn_tokens.proofs.Items.{items_next}
use Rattle.gn_tokens.proofs.law.items_one_after_the_other.Goals as goal

pub returns : goal.returns
returns c = items_next
