-- What holds of items that are found by their labels.
use Rattle.std.specs.Prelude.{◌≡◌, ◌↔◌, ℕ, ◌<◌, List, [], Some, None, slice_get}
use Rattle.gn_labels.specs.declared.label.Label.{Label}
use Rattle.gn_items.specs.declared.item.Item.{Item}
use Rattle.gn_items.specs.Effects.{item_at}
use Rattle.gn_labelled.specs.Index.{repeated}
use Rattle.gn_labelled.specs.Graphs.{shape_of}

-- an item stands in a list
abbrev pub IsIn : List Item → Item → Type 0
IsIn items x = (k : ℕ) × (slice_get items k ≡ Some x)

-- an item has the label, and none that stands before it has
pub record IsFirst (items : List Item) (q : Label) (x : Item) : Type 0 where
  pub place : ℕ
  pub here : slice_get items place ≡ Some x
  pub its : x.label ≡ q
  pub first : (k : ℕ) (y : Item) → k < place → slice_get items k ≡ Some y → y.label ≡ q → ⊥

-- no item has the label
abbrev pub IsAbsent : List Item → Label → Type 0
IsAbsent items q = (x : Item) → IsIn items x → x.label ≡ q → ⊥

-- the item that is found is the first one that has the label, and none is found exactly where none has it
abbrev pub FindsTheFirst : Type 0
FindsTheFirst = (items : List Item) (q : Label) (x : Item) → (item_at q items ≡ Some x) ↔ IsFirst items q x

abbrev pub LacksTheAbsent : Type 0
LacksTheAbsent = (items : List Item) (q : Label) → (item_at q items ≡ None) ↔ IsAbsent items q

-- an item stands behind another one of its label
pub record IsBehind (items : List Item) (x : Item) : Type 0 where
  pub place : ℕ
  pub here : slice_get items place ≡ Some x
  pub earlier : ℕ
  pub other : Item
  pub before : earlier < place
  pub there : slice_get items earlier ≡ Some other
  pub same : other.label ≡ x.label

-- the items that are told as repeated are those that stand behind another one of their label
abbrev pub TellsTheRepeated : Type 0
TellsTheRepeated = (items : List Item) (x : Item) → IsIn (repeated items) x ↔ IsBehind items x

-- two lists have the same items, in whatever order
abbrev pub HaveSameItems : List Item → List Item → Type 0
HaveSameItems xs ys = (x : Item) → IsIn xs x ↔ IsIn ys x

-- where no label is defined twice, what is found doesn't depend on the order of the items
abbrev pub OrderDoesNotMatter : Type 0
OrderDoesNotMatter = (xs ys : List Item) → HaveSameItems xs ys → repeated ys ≡ [] → (q : Label) → item_at q xs ≡ item_at q ys

-- and so the graph doesn't
abbrev pub OrderKeepsTheGraph : Type 0
OrderKeepsTheGraph = (xs ys : List Item) → HaveSameItems xs ys → repeated ys ≡ [] → shape_of xs ≡ shape_of ys
