use Rattle.gn_labels.proofs.LawLemmas.{star_behind}
use Rattle.gn_labels.proofs.laws.a_star_in_the_toolchain_alone_is_a_bad_pattern.Goals as goal

pub returns : goal.returns
returns c = star_behind
