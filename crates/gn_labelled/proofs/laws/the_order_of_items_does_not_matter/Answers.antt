use Rattle.gn_labelled.proofs.Told.{same_finds, same_graph}
use Rattle.gn_labelled.proofs.laws.the_order_of_items_does_not_matter.Goals as goal

pub returns : goal.returns
returns c = record { finds = same_finds; graph = same_graph }
