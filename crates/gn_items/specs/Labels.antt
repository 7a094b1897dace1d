-- Where the items of labels stand.
use Rattle.std.specs.Prelude.{◌≡◌, ℕ, suc, Bool, true, false, List, [], ◌∷◌, Option, Some, None, option_map, if◌then◌else◌}
use Rattle.std.specs.declared.cmp.Ordering.{Ordering}
use Rattle.std.specs.BTreeMap.{BTreeMap, get}
use Rattle.gn_labels.specs.declared.label.Label.{Label}
use Rattle.gn_items.specs.declared.item.Item.{Item}
use Rattle.gn_items.specs.Effects.{same_label}

-- how many items stand before the first one that has the label
abbrev pub place_of : Label → List Item → Option ℕ
place_of label [] = None
place_of label (item ∷ items) = if same_label label item.label then Some 0 else option_map suc (place_of label items)

-- the map has of each label that an item has the place of the first such item, and no other label
abbrev pub HasPlaces : (Label → Label → Ordering) → BTreeMap Label ℕ → List Item → Type 0
HasPlaces cmp places items = (label : Label) → get cmp places label ≡ place_of label items

-- the place of a label, when one more label, which is this one or isn't, gets a place: one that is known stays
abbrev pub with_place : Bool → ℕ → Option ℕ → Option ℕ
with_place is place (Some n) = Some n
with_place true place None = Some place
with_place false place None = None

-- the new map has the places of the old one, and this place for the label, unless it has one
abbrev pub IsNoted : (Label → Label → Ordering) → BTreeMap Label ℕ → BTreeMap Label ℕ → Label → ℕ → Type 0
IsNoted cmp old new label place = (q : Label) → get cmp new q ≡ with_place (same_label q label) place (get cmp old q)
