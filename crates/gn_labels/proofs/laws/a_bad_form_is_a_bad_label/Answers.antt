use Rattle.gn_labels.proofs.LawLemmas.{label_bad}
use Rattle.gn_labels.proofs.laws.a_bad_form_is_a_bad_label.Goals as goal

pub returns : goal.returns
returns c = label_bad
