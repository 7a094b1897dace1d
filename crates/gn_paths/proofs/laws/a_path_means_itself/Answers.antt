use Rattle.gn_paths.proofs.LawLemmas.{means_itself}
use Rattle.gn_paths.proofs.laws.a_path_means_itself.Goals as goal

pub returns : goal.returns
returns c = means_itself
