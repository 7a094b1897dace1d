use Rattle.std.proofs.Common.{map}
use Rattle.gn_items.specs.declared.item.Item.{Item}
use Rattle.gn_labelled.specs.Graphs.{shape_of}
use Rattle.gn_build_faults.proofs.Listed.{others_have_nothing}
use Rattle.gn_build_faults.proofs.reaching.targets_of.Goals as goal

pub reached-requires : goal.reached-requires
reached-requires c =
    let items = c.args.items.now in
    c.the_labels_of_items_are_enough.ensures (shape_of items) (map (λ (item : Item). item.label) items) (others_have_nothing items)
