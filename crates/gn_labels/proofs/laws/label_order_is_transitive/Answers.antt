use Rattle.gn_labels.proofs.OrderLemmas.{before_before}
use Rattle.gn_labels.proofs.laws.label_order_is_transitive.Goals as goal

pub returns : goal.returns
returns c = before_before
