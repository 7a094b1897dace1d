use Rattle.std.proofs.Common.{◌≡◌, List, [], ◌∷◌, ◌++◌, sym, subst}
use Rattle.gn_labels.specs.contracts.label.LabelOrd.TheImpl.{cmp-value}
use Rattle.gn_items.specs.declared.item.Item.{Item}
use Rattle.gn_items.specs.Labels.{HasPlaces}
use Rattle.gn_items.proofs.LabelLemmas.{has_one_more}
use Rattle.gn_items.proofs.outcome.Outcome.add_item.Goals as goal

pub invariant_of-self-2 : goal.invariant_of-self-2
invariant_of-self-2 c =
    let pushed : c.push_reserved.new.self.items ≡ c.self.inside.items.items ++ c.args.item ∷ [] = cc (c.push_reserved.ensures.items, c.make_place.ensures.items) in
    subst (λ (items : List Item). HasPlaces cmp-value.it c.make_place.new.places items) (sym pushed)
    (has_one_more c.self.inside.places c.make_place.new.places c.self.inside.items.items c.args.item c.in_ok-make_place.ensures.ok c.self.invariant)
