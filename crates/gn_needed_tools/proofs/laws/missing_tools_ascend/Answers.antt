use Rattle.gn_needed_tools.proofs.LawLemmas.{missing_ascend}
use Rattle.gn_needed_tools.proofs.laws.missing_tools_ascend.Goals as goal

pub returns : goal.returns
returns c = missing_ascend
