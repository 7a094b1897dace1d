-- The labels of the items that are found are among those of all items.
use Rattle.std.proofs.Common.{◌≡◌, List, [], ◌∷◌, Bool, true, false, ◌||◌, cond, Option, Some, IsSome, map, refl, sym, ◌∙◌, ap}
use Rattle.gn_labels.specs.declared.label.Label.{Label}
use Rattle.gn_dependencies.specs.Lists.{has, same_label as same_of_dependencies}
use Rattle.gn_items.specs.declared.item.Item.{Item}
use Rattle.gn_items.specs.Effects.{same_label, item_at}
use Rattle.gn_labelled.specs.Graphs.{kind_at}

-- the two tests for equal labels are one
pub same_tie : (a b : Label) → same_label a b ≡ same_of_dependencies a b
unfolding same_of_dependencies
same_tie a b = refl

listed_by : (b : Bool) (x : Item) (rest : Option Item) (c : Bool) → IsSome (kind_at (cond b (Some x) rest)) → (IsSome (kind_at rest) → c ≡ true) → (b || c) ≡ true
listed_by true x rest c h onward = refl
listed_by false x rest c h onward = onward h

pub listed : (q : Label) (items : List Item) → IsSome (kind_at (item_at q items)) → has (map (λ (item : Item). item.label) items) q ≡ true
listed q [] h = absurd (cc h)
listed q (x ∷ items) h =
    ap (λ b. b || has (map (λ (item : Item). item.label) items) q) (sym (same_tie q x.label))
    ∙ listed_by (same_label q x.label) x (item_at q items) (has (map (λ (item : Item). item.label) items) q) h (listed q items)
