use Rattle.std.proofs.Common.{◌∙◌, ap, List, slice_get}
use Rattle.gn_items.specs.declared.item.Item.{Item}
use Rattle.gn_items.specs.Effects.{Effects, item_at}
use Rattle.gn_items.proofs.LabelLemmas.{at_place, found_at, lent_at}
use Rattle.gn_items.proofs.outcome.Outcome.item.Goals as goal

pub returns-in-Some : goal.returns-in-Some
returns-in-Some c =
    lent_at c.deref.result.now c.in-Some.place.now c.get-in-Some.result c.get-in-Some.ensures.lookup
    ∙ ap (λ (items : List Item). slice_get items c.in-Some.place.now) c.deref.ensures.value
    ∙ ap (at_place c.self.inside.items.items) (c.in-Some.ensures.value ∙ c.self.invariant c.args.label.now) ∙ found_at c.args.label.now c.self.inside.items.items
    ∙ ap (λ (e : Effects). item_at c.args.label.now e.items) c.self.view_is

pub returns-in-None : goal.returns-in-None
returns-in-None c =
    ap (at_place c.self.inside.items.items) (c.in-None.ensures.value ∙ c.self.invariant c.args.label.now) ∙ found_at c.args.label.now c.self.inside.items.items
    ∙ ap (λ (e : Effects). item_at c.args.label.now e.items) c.self.view_is
