use Rattle.gn_substs.proofs.ReadLemmas.{one_reading}
use Rattle.gn_substs.proofs.law.each_text_has_one_reading.Goals as goal

pub returns : goal.returns
returns c = one_reading
