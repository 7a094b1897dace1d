use Rattle.gn_grammar.proofs.Viable.{judged_rightly}
use Rattle.gn_grammar.proofs.law.machine_is_right.Goals as goal

pub returns : goal.returns
returns c = judged_rightly
