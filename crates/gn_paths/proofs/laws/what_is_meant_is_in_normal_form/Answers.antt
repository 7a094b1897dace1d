use Rattle.gn_paths.proofs.LawLemmas.{meant_normal}
use Rattle.gn_paths.proofs.laws.what_is_meant_is_in_normal_form.Goals as goal

pub returns : goal.returns
returns c = meant_normal
