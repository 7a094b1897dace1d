use Rattle.gn_meaning.proofs.Lists.{lists_are_their_values}
use Rattle.gn_meaning.proofs.block_laws.lists_are_the_values_of_their_items.Goals as goal

pub returns : goal.returns
returns c = lists_are_their_values
