use Rattle.gn_tool_texts.proofs.LeastTold.{told_is_least}
use Rattle.gn_tool_texts.proofs.laws.what_is_told_is_the_least.Goals as goal

pub returns : goal.returns
returns c = told_is_least
