-- Items by their labels.
use Rattle.std.specs.Prelude.{◌≡◌, ℕ, zero, suc, List, [], ◌∷◌, ◌++◌, Bool, Option, Some, None, map, option_map, slice_get, is_some, cond}
use Rattle.std.specs.Borrow.{Bor}
use Rattle.indexmap.specs.IndexMap.{IndexMap, get_by}
use Rattle.gn_labels.specs.declared.label.Label.{Label}
use Rattle.gn_labels.specs.contracts.label.LabelPartialEq.TheImpl.{eq-value}
use Rattle.gn_items.specs.declared.item.Item.{Item}
use Rattle.gn_items.specs.Effects.{same_label, item_at}

-- those of the items whose label one of the others has, or an item that stands before them
abbrev pub repeats : List Item → List Item → List Item
repeats others [] = []
repeats others (item ∷ items) =
    cond (is_some (item_at item.label others)) (item ∷ repeats (others ++ item ∷ []) items) (repeats (others ++ item ∷ []) items)

-- the items whose label an item before them has, in order. GN refuses a build that has such an item
abbrev pub repeated : List Item → List Item
repeated items = repeats [] items

-- the items behind references
abbrev pub lent : List (Bor Item) → List Item
lent items = map (λ (item : Bor Item). item.now) items

-- whether a key is the label
abbrev pub is_label : Label → Bor Label → Bool
is_label q key = eq-value.it q key.now

-- the place of the first of the items that has the label
abbrev pub place_of : Label → List Item → Option ℕ
place_of q [] = None
place_of q (item ∷ items) = cond (same_label q item.label) (Some zero) (option_map suc (place_of q items))

-- the item at a place, if there is one: at that of a label it is the first that has the label
abbrev pub item_in : List Item → Option ℕ → Option Item
item_in items None = None
item_in items (Some place) = slice_get items place

-- a map has of each label the place of the first of the items that has it, and the rest of them stand in a list
pub record IsIndex {S : Type 0} (items : List Item) (firsts : IndexMap (Bor Label) ℕ S) (rest : List Item) : Type 0 where
  pub found : (q : Label) → get_by (is_label q) firsts ≡ place_of q items
  pub again : rest ≡ repeated items
