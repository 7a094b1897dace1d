use Rattle.gn_faults.proofs.NumberLemmas.{code_same}
use Rattle.gn_faults.proofs.laws.codes_have_different_numbers.Goals as goal

pub returns : goal.returns
returns c = code_same
