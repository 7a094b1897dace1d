use Rattle.gn_labels.proofs.LawLemmas.{without_star}
use Rattle.gn_labels.proofs.laws.a_pattern_without_a_star_is_a_label.Goals as goal

pub returns : goal.returns
returns c = without_star
