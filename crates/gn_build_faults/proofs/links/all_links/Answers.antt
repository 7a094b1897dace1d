use Rattle.std.proofs.Common.{Option, length, ap, ◌∙◌}
use Rattle.std.proofs.lemmas.Option.{slice_get-get_or}
use Rattle.gn_basics.proofs.Results.{if_ok}
use denote.Param.Send.{sendable}
use Rattle.gn_items.specs.declared.item.Item.{Item}
use Rattle.gn_build_faults.specs.declared.links.Links.{Links}
use Rattle.gn_build_faults.specs.Settling.{dependencies_at}
use Rattle.gn_build_faults.specs.Links.{places_of, item_links}
use Rattle.gn_threads.proofs.Shown.{shown}
use Rattle.gn_build_faults.proofs.Linked.{lent_length}
use Rattle.gn_build_faults.proofs.links.all_links.Goals as goal

pub deal-requires-sync-F : goal.deal-requires-sync-F
deal-requires-sync-F g c κs within = search (c.items_are_shared.ensures.linking, sendable) depth 20

pub returns : goal.returns
returns g c =
    let items = c.args.items.now in
    let count = lent_length c.items.result.now ∙ ap length c.items.ensures in
    let of_item = λ (item : Option Item). places_of items (dependencies_at item) in
    if_ok c.deal.result
    (λ all made. shown (λ (l : Links). l.places.items) (item_links items) _ items all.items count made.0 made.1 (λ place y d within is. is ∙ ap of_item (slice_get-get_or items place d within)))
    c.deal.ensures
