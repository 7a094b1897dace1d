use Rattle.gn_substs.proofs.LawLemmas.{text_of_name}
use Rattle.gn_substs.proofs.law.each_name_has_its_text.Goals as goal

pub returns : goal.returns
returns c = text_of_name
