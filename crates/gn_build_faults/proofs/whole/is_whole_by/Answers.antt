use Rattle.std.proofs.Common.{Bool, List, ap, sym, ◌∙◌, replicate, false}
use Rattle.gn_build_faults.specs.Links.{places_of}
use Rattle.gn_build_faults.specs.Whole.{with_places, are_linked, are_closed}
use Rattle.gn_build_faults.proofs.Closed.{whole}
use Rattle.gn_build_faults.proofs.Linked.{marked_by, closed_by}
use Rattle.gn_build_faults.proofs.whole.is_whole_by.Goals as goal

pub returns-then-rises : goal.returns-then-rises
returns-then-rises c items k are at e h =
    let labels = c.args.labels.now in
    let none = replicate k false in
    let here = closed_by items (with_places none (places_of items labels)) labels in
    let marked = ap (λ (ms : List Bool). are_closed items ms labels) (marked_by items none labels) in
    let linked = sym (λ i. are_linked (are i) (with_places (e i) (at i)) (at i)) in
    whole c.label_order_is_transitive.ensures c.the_labels_of_items_are_enough.ensures c.reached_targets_are_closed.ensures.is c.args.default.now items k labels
    (sym marked ∙ sym here ∙ linked ∙ sym c.is_closed_by.ensures ∙ h) (sym c.rises.ensures ∙ c.if-rises.true)
