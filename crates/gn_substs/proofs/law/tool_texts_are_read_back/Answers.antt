use Rattle.gn_substs.proofs.VariableLemmas.{text_read_back, text_value}
use Rattle.gn_substs.proofs.law.tool_texts_are_read_back.Goals as goal

pub returns-clause-parts : goal.returns-clause-parts
returns-clause-parts c = text_read_back

pub returns-clause-value : goal.returns-clause-value
returns-clause-value c = text_value
