use Rattle.gn_calls_path.proofs.LawLemmas.{label_matches_itself}
use Rattle.gn_calls_path.proofs.laws.a_label_matches_itself.Goals as goal

pub returns : goal.returns
returns c = λ w text name plain told. label_matches_itself w text name (c.a_pattern_without_a_star_is_a_label.ensures w.directory w.toolchain text plain) told
