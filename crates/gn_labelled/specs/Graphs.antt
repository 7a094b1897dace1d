-- The graph of items, as dependencies and the rules of a graph see it: what the item of a label has, which is the first one that has the label.
use Rattle.std.specs.Prelude.{List, [], Option, Some, None, Bool, false}
use Rattle.gn_paths.specs.declared.place.Place.{Place}
use Rattle.gn_labels.specs.declared.label.Label.{Label}
use Rattle.gn_labels.specs.declared.pattern.Pattern.{Pattern}
use Rattle.gn_rows.specs.declared.kinds.ItemKind.{ItemKind}
use Rattle.gn_rows.specs.declared.variable.Variable.{Variable}
use Rattle.gn_rows.specs.declared.variable.Variable.TheVariants.{Visibility, Testonly, AssertNoDeps}
use Rattle.gn_dependencies.specs.Shape.{Shape}
use Rattle.gn_dependencies.specs.Configurations.{Records}
use Rattle.gn_define.specs.Held.{Held, patterns}
use Rattle.gn_define.specs.Fields.{field_at, boolean_of, labels_of, patterns_of}
use Rattle.gn_items.specs.declared.item.Item.{Item}
use Rattle.gn_items.specs.Effects.{item_at}

abbrev pub kind_at : Option Item → Option ItemKind
kind_at None = None
kind_at (Some item) = Some item.kind

-- the labels that a variable holds; none where the block doesn't set it
abbrev pub labels_at : Option Item → Variable → List Label
labels_at None variable = []
labels_at (Some item) variable = labels_of (field_at item.fields variable)

abbrev pub patterns_held : Option Held → Option (List Pattern)
patterns_held (Some (patterns ps)) = Some ps
patterns_held _ = None

-- an item whose block doesn't set `visibility` has none, which isn't the same as an empty list
abbrev pub visibility_at : Option Item → Option (List Pattern)
visibility_at None = None
visibility_at (Some item) = patterns_held (field_at item.fields Visibility)

abbrev pub or_false : Option Bool → Bool
or_false None = false
or_false (Some b) = b

-- `testonly` is false where it isn't set
abbrev pub is_testonly_at : Option Item → Bool
is_testonly_at None = false
is_testonly_at (Some item) = or_false (boolean_of (field_at item.fields Testonly))

abbrev pub forbidden_at : Option Item → List Pattern
forbidden_at None = []
forbidden_at (Some item) = patterns_of (field_at item.fields AssertNoDeps)

-- where the call stands that defines an item
abbrev pub place_at : Option Item → Option Place
place_at None = None
place_at (Some item) = Some item.place

abbrev pub shape_of : List Item → Shape
shape_of items = record { lists = λ label. labels_at (item_at label items); kind = λ label. kind_at (item_at label items) }

-- no target is resolved
abbrev pub no_records : Records
no_records = record { pushed = λ label. []; pushed_public = λ label. [] }
