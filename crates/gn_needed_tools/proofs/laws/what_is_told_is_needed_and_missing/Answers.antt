use Rattle.gn_needed_tools.proofs.LawLemmas.{told_exactly}
use Rattle.gn_needed_tools.proofs.laws.what_is_told_is_needed_and_missing.Goals as goal

pub returns : goal.returns
returns c = told_exactly
