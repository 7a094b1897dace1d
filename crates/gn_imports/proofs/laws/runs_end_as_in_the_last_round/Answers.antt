use Rattle.gn_imports.proofs.Final.{final_run}
use Rattle.gn_imports.proofs.laws.runs_end_as_in_the_last_round.Goals as goal

pub returns : goal.returns
returns c = λ project m t. final_run project m t
