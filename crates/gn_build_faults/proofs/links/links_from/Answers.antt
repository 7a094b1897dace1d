use Rattle.std.proofs.Common.{Option, ap, ◌∙◌}
use Rattle.gn_basics.proofs.Results.{if_ok}
use Rattle.gn_items.specs.declared.item.Item.{Item}
use Rattle.gn_build_faults.specs.Settling.{dependencies_at}
use Rattle.gn_build_faults.specs.Links.{places_of}
use Rattle.gn_build_faults.proofs.links.links_from.Goals as goal

pub returns : goal.returns
returns c =
    if_ok c.links_of.result
    (λ links is. is ∙ ap (λ (item : Option Item). places_of c.args.items.now (dependencies_at item)) c.at-item.ensures)
    c.links_of.ensures
