use Rattle.gn_paths.proofs.LawLemmas.{meant_directory}
use Rattle.gn_paths.proofs.laws.what_ends_in_no_slash_is_a_directory.Goals as goal

pub returns : goal.returns
returns c = meant_directory
