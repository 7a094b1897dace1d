-- What is known of the targets of a build once they are resolved, by the items that the build defines.
use Rattle.std.specs.Prelude.{ℕ, Bool, true, false, List, [], ◌∷◌, Option, Some, None, map, filter}
use Rattle.std.specs.List.{flat_map}
use Rattle.gn_labels.specs.declared.label.Label.{Label}
use Rattle.gn_rows.specs.declared.kinds.ItemKind.{ItemKind}
use Rattle.gn_rows.specs.declared.kinds.ItemKind.TheVariants as kinds
use Rattle.gn_rows.specs.declared.variable.Variable.{Variable}
use Rattle.gn_rows.specs.declared.variable.Variable.TheVariants.{DataDeps}
use Rattle.gn_define.specs.Held.{Held}
use Rattle.gn_dependencies.specs.Shape.{near}
use Rattle.gn_items.specs.declared.item.Item.{Item}
use Rattle.gn_items.specs.Effects.{item_at}
use Rattle.gn_labelled.specs.Graphs.{shape_of}
use Rattle.gn_writing.specs.declared.records.Dones.{Dones}
use Rattle.gn_records.specs.declared.inherited.Inherited.{Inherited}
use Rattle.gn_records.specs.declared.records.Exports.{Exports}
use Rattle.gn_records.specs.declared.records.Record.{Record}
use Rattle.gn_records.specs.Records.{record_of}
use Rattle.gn_records.specs.Alone.{exports_at, objects_at}
use Rattle.gn_resolved_meant.specs.Along.{applied_in}
use Rattle.gn_resolved_meant.specs.Inherited.{inherited_in}
use Rattle.gn_resolved_meant.specs.Reached.{hard_in}
use Rattle.gn_toolchains.specs.Toolchains.{Surroundings, around_of}

-- the labels of all items: only they have dependencies
abbrev pub labels_in : List Item → List Label
labels_in items = map (λ (item : Item). item.label) items

-- what the configurations hold that apply to a target, in their order
abbrev pub fields_in : Option Item → List (List (Variable × Held))
fields_in None = []
fields_in (Some item) = item.fields ∷ []

unfoldable pub configs_at : List Item → Label → List (List (Variable × Held))
configs_at items t = flat_map (λ q. fields_in (item_at q items)) (applied_in (labels_in items) (shape_of items) t)

-- What a target gives to those that depend on it

abbrev pub no_exports : Exports
no_exports = record { done = []; linked = []; libs = []; lib_dirs = [] }

abbrev pub exports_in : Surroundings → List Item → Option Item → Exports
exports_in s items None = no_exports
exports_in s items (Some item) = exports_at (around_of s items item.label.toolchain) item (configs_at items item.label)

unfoldable pub exports_of : Surroundings → List Item → Label → Exports
exports_of s items t = exports_in s items (item_at t items)

abbrev pub objects_in : Surroundings → List Item → Option Item → List (List ℕ)
objects_in s items None = []
objects_in s items (Some item) = objects_at (around_of s items item.label.toolchain) item

unfoldable pub objects_of : Surroundings → List Item → Label → List (List ℕ)
objects_of s items t = objects_in s items (item_at t items)

-- What comes to a target

-- the done files of these targets
abbrev pub dones_of : Surroundings → List Item → List Label → List (List ℕ)
dones_of s items ts = map (λ t. (exports_of s items t).done) ts

abbrev pub dones_at : Surroundings → List Item → Label → Dones
dones_at s items t = record {
  deps = dones_of s items (near (shape_of items) t);
  data_deps = dones_of s items ((shape_of items).lists t DataDeps);
}

-- the done files of the actions and copies that dependencies lead to
abbrev pub hard_at : Surroundings → List Item → Label → List (List ℕ)
hard_at s items t = dones_of s items (hard_in (labels_in items) s.default (shape_of items) t)

-- what a linked target takes from the libraries that it inherits
abbrev pub is_set : Option ItemKind → Bool
is_set (Some kinds.SourceSet) = true
is_set _ = false

abbrev pub is_static : Option ItemKind → Bool
is_static (Some kinds.StaticLibrary) = true
is_static _ = false

abbrev pub is_shared : Option ItemKind → Bool
is_shared (Some kinds.SharedLibrary) = true
is_shared _ = false

abbrev pub those : (Option ItemKind → Bool) → List Item → List Label → List Label
those test items ls = filter (λ q. test ((shape_of items).kind q)) ls

abbrev pub inherited_from : Surroundings → List Item → List Label → Inherited
inherited_from s items ls = record {
  set_objects = flat_map (objects_of s items) (those is_set items ls);
  set_dones = dones_of s items (those is_set items ls);
  statics = map (λ q. (exports_of s items q).linked) (those is_static items ls);
  shared = dones_of s items (those is_shared items ls);
  solibs = map (λ q. (exports_of s items q).linked) (those is_shared items ls);
  libs = flat_map (λ q. (exports_of s items q).libs) ls;
  lib_dirs = flat_map (λ q. (exports_of s items q).lib_dirs) ls;
}

abbrev pub inherited_at : Surroundings → List Item → Label → Inherited
inherited_at s items t = inherited_from s items (inherited_in (labels_in items) s.default (shape_of items) t)

-- The record of a target

abbrev pub record_with : Surroundings → List Item → Item → Record
record_with s items item =
    record_of (around_of s items item.label.toolchain) item (configs_at items item.label) (inherited_at s items item.label) (dones_at s items item.label) (hard_at s items item.label)

abbrev pub record_in : Surroundings → List Item → Option Item → Option Record
record_in s items None = None
record_in s items (Some item) = Some (record_with s items item)

-- what is known of a target that is resolved; nothing where no item has the label
unfoldable pub record_at : Surroundings → List Item → Label → Option Record
record_at s items t = record_in s items (item_at t items)
