use Rattle.gn_paths.proofs.LawLemmas.{system_leads}
use Rattle.gn_paths.proofs.laws.what_is_shown_in_the_system_leads_back.Goals as goal

pub returns : goal.returns
returns c = system_leads
