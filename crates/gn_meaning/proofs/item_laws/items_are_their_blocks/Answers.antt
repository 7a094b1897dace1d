use Rattle.gn_meaning.proofs.Items.{are_their_blocks}
use Rattle.gn_meaning.proofs.item_laws.items_are_their_blocks.Goals as goal

pub returns : goal.returns
returns c = are_their_blocks c.fields_are_of_the_block.ensures c.demands_are_met.ensures
