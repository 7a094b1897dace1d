use Rattle.gn_calls_path.proofs.RebaseLemmas.{leads_back}
use Rattle.gn_calls_path.proofs.laws.what_is_rebased_leads_back.Goals as goal

pub returns : goal.returns
returns c = λ w p b start s here base path normal source good within below current meant shows h.
    leads_back w p b start s here base path (c.what_is_shown_leads_back.ensures path base w.root normal source good within) below current meant shows h
