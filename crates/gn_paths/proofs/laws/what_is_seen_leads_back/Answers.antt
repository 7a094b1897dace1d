use Rattle.gn_paths.proofs.LawLemmas.{seen_back}
use Rattle.gn_paths.proofs.laws.what_is_seen_leads_back.Goals as goal

pub returns : goal.returns
returns c = seen_back
