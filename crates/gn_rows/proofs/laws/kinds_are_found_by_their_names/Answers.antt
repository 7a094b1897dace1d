use Rattle.gn_rows.proofs.KindLemmas.{found_has_name}
use Rattle.gn_rows.proofs.laws.kinds_are_found_by_their_names.Goals as goal

pub returns-clause-named : goal.returns-clause-named
returns-clause-named c = found_has_name
