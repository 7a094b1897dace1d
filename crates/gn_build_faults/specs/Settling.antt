-- Items that are known to reach no cycle, by marks at their places.
use Rattle.std.specs.Prelude.{◌≡◌, ℕ, List, ◌++◌, Bool, true, Option, Some, None, slice_get}
use Rattle.gn_labels.specs.declared.label.Label.{Label}
use Rattle.gn_rows.specs.declared.variable.Variable.TheVariants.{PublicDeps, Deps, DataDeps}
use Rattle.gn_dependencies.specs.Shape.{EndsWithin}
use Rattle.gn_items.specs.declared.item.Item.{Item}
use Rattle.gn_labelled.specs.Graphs.{shape_of, labels_at, or_false}
use Rattle.gn_labelled.specs.Index.{place_of}

-- whether the item at a place is marked; what no item has reaches nothing
abbrev pub is_marked : List Bool → Option ℕ → Bool
is_marked marks None = true
is_marked marks (Some place) = or_false (slice_get marks place)

-- whether the item of a label is marked, or no item has it
abbrev pub is_settled : List Item → List Bool → Label → Bool
is_settled items marks label = is_marked marks (place_of label items)

-- the dependencies of an item: public, private, of data
abbrev pub dependencies_at : Option Item → List Label
dependencies_at item = (labels_at item PublicDeps ++ labels_at item Deps) ++ labels_at item DataDeps

-- the paths of dependencies from what is marked have a bound
abbrev pub AreMarked : List Item → List Bool → Type 0
AreMarked items marks = (q : Label) → is_settled items marks q ≡ true → (n : ℕ) × EndsWithin (shape_of items) n q
