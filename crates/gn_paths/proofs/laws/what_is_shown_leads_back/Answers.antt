use Rattle.gn_paths.proofs.LawLemmas.{shown_back}
use Rattle.gn_paths.proofs.laws.what_is_shown_leads_back.Goals as goal

pub returns : goal.returns
returns c = shown_back
