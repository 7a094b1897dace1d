-- Labels that no item has have nothing.
use Rattle.std.proofs.Common.{◌≡◌, List, [], ◌∷◌, Bool, true, false, ◌||◌, cond, Option, Some, None, map, refl, ◌∙◌, ap}
use Rattle.gn_labels.specs.declared.label.Label.{Label}
use Rattle.gn_dependencies.specs.Lists.{has}
use Rattle.gn_items.specs.declared.item.Item.{Item}
use Rattle.gn_items.specs.Effects.{same_label, item_at}
use Rattle.gn_labelled.specs.Graphs.{shape_of, labels_at}
use Rattle.gn_labelled.specs.Listed.{same_tie}
use Rattle.gn_graph_meant.specs.Laws.{OthersHaveNothing}

lacked_by : (b : Bool) (x : Item) (rest : Option Item) (c : Bool) → (b || c) ≡ false → (c ≡ false → rest ≡ None) → cond b (Some x) rest ≡ None
lacked_by true x rest c h onward = absurd (cc h)
lacked_by false x rest c h onward = onward h

lacked : (q : Label) (items : List Item) → has (map (λ (item : Item). item.label) items) q ≡ false → item_at q items ≡ None
lacked q [] h = refl
lacked q (x ∷ items) h =
    lacked_by (same_label q x.label) x (item_at q items) (has (map (λ (item : Item). item.label) items) q)
    (ap (λ b. b || has (map (λ (item : Item). item.label) items) q) (same_tie q x.label) ∙ h) (lacked q items)

pub others_have_nothing : (items : List Item) → OthersHaveNothing (shape_of items) (map (λ (item : Item). item.label) items)
others_have_nothing items q variable h = ap (λ item. labels_at item variable) (lacked q items h)
