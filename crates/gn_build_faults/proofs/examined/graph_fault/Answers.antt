use Rattle.std.proofs.Common.{map}
use Rattle.gn_basics.proofs.Results.{if_ok}
use Rattle.gn_items.specs.declared.item.Item.{Item}
use Rattle.gn_labelled.specs.Graphs.{shape_of}
use Rattle.gn_build_faults.specs.Faults.{facts_in}
use Rattle.gn_build_faults.proofs.Listed.{others_have_nothing}
use Rattle.gn_build_faults.proofs.examined.graph_fault.Goals as goal

pub returns : goal.returns
returns c =
    let items = c.args.graph.now.items.now in
    let all = map (λ (item : Item). item.label) items in
    let only = c.the_labels_of_items_are_enough.ensures (shape_of items) all (others_have_nothing items) in
    if_ok c.least_fault.result (λ told is. c.there_is_one_least_fault.ensures.is all (facts_in c.args.graph.now.default.now items) only c.args.targets.now told is) c.least_fault.ensures
