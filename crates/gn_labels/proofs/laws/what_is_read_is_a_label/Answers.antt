use Rattle.gn_labels.proofs.LawLemmas.{label_good}
use Rattle.gn_labels.proofs.laws.what_is_read_is_a_label.Goals as goal

pub returns : goal.returns
returns c = label_good c.what_is_meant_is_in_normal_form.ensures c.what_ends_in_no_slash_is_a_directory.ensures
