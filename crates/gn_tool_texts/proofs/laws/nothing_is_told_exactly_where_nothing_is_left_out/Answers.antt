use Rattle.gn_tool_texts.proofs.WholeLaw.{whole_exactly}
use Rattle.gn_tool_texts.proofs.laws.nothing_is_told_exactly_where_nothing_is_left_out.Goals as goal

pub returns : goal.returns
returns c = whole_exactly
