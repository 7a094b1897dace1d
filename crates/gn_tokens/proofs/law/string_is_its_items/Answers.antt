use Rattle.gn_tokens.proofs.Items.{string_reads}
use Rattle.gn_tokens.proofs.law.string_is_its_items.Goals as goal

pub returns : goal.returns
returns c = string_reads
