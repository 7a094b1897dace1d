-- What is kept of the targets of a build while they are resolved, and what is made of it.
use Rattle.std.specs.Prelude.{◌≡◌, ℕ, List, [], ◌∷◌, ◌++◌, Option, Some, None, is_some, option_map, true, map, Bool, Box}
use Rattle.std.specs.Global.{Global}
use Rattle.std.specs.List.{flat_map}
use Rattle.indexmap.specs.IndexMap.{get, Updates}
use Rattle.gn_labels.specs.declared.label.Label.{Label}
use Rattle.gn_labels.specs.contracts.label.LabelPartialEq.TheImpl.{eq-value}
use Rattle.gn_rows.specs.declared.kinds.ItemKind.{ItemKind}
use Rattle.gn_rows.specs.declared.kinds.ItemKind.TheVariants as kinds
use Rattle.gn_rows.specs.declared.variable.Variable.{Variable}
use Rattle.gn_rows.specs.declared.variable.Variable.TheVariants.{DataDeps}
use Rattle.gn_define.specs.Held.{Held}
use Rattle.gn_dependencies.specs.Lists.{has}
use Rattle.gn_dependencies.specs.Shape.{near}
use Rattle.gn_dependencies.specs.Configurations.{Records, IsApplied, IsPushed, IsPushedPublic}
use Rattle.gn_dependencies.specs.Inherited.{IsInherited}
use Rattle.gn_graph_faults.specs.Order.{AreInOrder}
use Rattle.gn_items.specs.declared.item.Item.{Item}
use Rattle.gn_items.specs.Effects.{item_at}
use Rattle.gn_labelled.specs.Graphs.{shape_of}
use Rattle.gn_writing.specs.declared.records.Dones.{Dones}
use Rattle.gn_records.specs.Around.{Around}
use Rattle.gn_records.specs.Made.{objects_of}
use Rattle.gn_records.specs.declared.inherited.Inherited.{Inherited}
use Rattle.gn_records.specs.declared.records.Exports.{Exports}
use Rattle.gn_records.specs.declared.records.Record.{Record}
use Rattle.gn_records.specs.Records.{record_of}
use Rattle.gn_resolved_meant.specs.Reached.{hard_of}
use Rattle.gn_resolved_meant.specs.Laws.{hard_from}
use Rattle.gn_resolve.specs.declared.table.Entry.{Entry}
use Rattle.gn_resolve.specs.declared.table.Resolved.{Resolved}
use Rattle.gn_resolve.specs.Resolved.{fields_in, no_exports}

-- What is kept

-- what is kept of a label
abbrev pub entry_in : Resolved → Label → Option Entry
entry_in r q = get eq-value.it r.entries q

-- whether it is resolved, and whether all of some labels are
abbrev pub is_in : Resolved → Label → Bool
is_in r q = is_some (entry_in r q)

abbrev pub AreIn : Resolved → List Label → Type 0
AreIn r ls = (q : Label) → has ls q ≡ true → is_in r q ≡ true

-- what its target hands on; nothing where it isn't resolved
abbrev pub pushed_held : Option Entry → List Label
pushed_held None = []
pushed_held (Some e) = e.pushed.items

abbrev pub pushed_public_held : Option Entry → List Label
pushed_public_held None = []
pushed_public_held (Some e) = e.pushed_public.items

abbrev pub handed_in : Resolved → Records
handed_in r = record { pushed = λ q. pushed_held (entry_in r q); pushed_public = λ q. pushed_public_held (entry_in r q) }

abbrev pub hard_held : Option Entry → List Label
hard_held None = []
hard_held (Some e) = e.hard.items

abbrev pub hard_at : Resolved → Label → List Label
hard_at r q = hard_held (entry_in r q)

-- a record that is kept
abbrev pub unboxed : Option (Box Record Global) → Option Record
unboxed known = option_map (λ b. b.value) known

abbrev pub record_kept : Entry → Option Record
record_kept e = unboxed e.known

-- the record of its target
abbrev pub known_held : Option Entry → Option Record
known_held None = None
known_held (Some e) = record_kept e

abbrev pub known_in : Resolved → Label → Option Record
known_in r q = known_held (entry_in r q)

-- What a record gives

abbrev pub exports_known : Option Record → Exports
exports_known None = no_exports
exports_known (Some k) = k.exports

-- the objects of its own sources
abbrev pub objects_known : Option Record → List (List ℕ)
objects_known None = []
objects_known (Some k) = objects_of k.written

-- the done files of targets
abbrev pub dones_in : Resolved → List Label → List (List ℕ)
dones_in r ls = map (λ q. (exports_known (known_in r q)).done) ls

abbrev pub dones_from : List Item → Resolved → Label → Dones
dones_from items r t = record {
  deps = dones_in r (near (shape_of items) t);
  data_deps = dones_in r ((shape_of items).lists t DataDeps);
}

-- What comes along

-- a dependency where it is an action or a copy, and those to which it leads
abbrev pub hard_along : List Item → Resolved → Label → List Label
hard_along items r d = hard_of (shape_of items) (d ∷ []) ++ hard_at r d

-- what the items of these labels hold, in their order
abbrev pub configs_of : List Item → List Label → List (List (Variable × Held))
configs_of items ls = flat_map (λ q. fields_in (item_at q items)) ls

-- they are what the configurations hold that apply to a target
abbrev pub AreFields : List Item → Label → List (List (Variable × Held)) → Type 0
AreFields items t fields = (ls : List Label) × IsApplied (shape_of items) t ls × (fields ≡ configs_of items ls)

-- What is taken from libraries

abbrev pub nothing_inherited : Inherited
nothing_inherited = record { set_objects = []; set_dones = []; statics = []; shared = []; solibs = []; libs = []; lib_dirs = [] }

abbrev pub with_set : Inherited → List (List ℕ) → Exports → Inherited
with_set h objects e = record h { set_objects = h.set_objects ++ objects; set_dones = h.set_dones ++ e.done ∷ [] }

abbrev pub with_static : Inherited → Exports → Inherited
with_static h e = record h { statics = h.statics ++ e.linked ∷ [] }

abbrev pub with_shared : Inherited → Exports → Inherited
with_shared h e = record h { shared = h.shared ++ e.done ∷ []; solibs = h.solibs ++ e.linked ∷ [] }

abbrev pub with_libs : Inherited → Exports → Inherited
with_libs h e = record h { libs = h.libs ++ e.libs; lib_dirs = h.lib_dirs ++ e.lib_dirs }

-- with what is taken from one by its kind
abbrev pub with_kind : Option ItemKind → Inherited → List (List ℕ) → Exports → Inherited
with_kind (Some kinds.SourceSet) h objects e = with_set h objects e
with_kind (Some kinds.StaticLibrary) h objects e = with_static h e
with_kind (Some kinds.SharedLibrary) h objects e = with_shared h e
with_kind _ h objects e = h

abbrev pub with_library : Option ItemKind → Inherited → Option Record → Inherited
with_library kind h None = h
with_library kind h (Some k) = with_libs (with_kind kind h (objects_of k.written) k.exports) k.exports

-- with what is taken from several, one after the other
abbrev pub with_libraries : List Item → Resolved → Inherited → List Label → Inherited
with_libraries items r h [] = h
with_libraries items r h (q ∷ ls) = with_libraries items r (with_library ((shape_of items).kind q) h (known_in r q)) ls

abbrev pub libraries_in : List Item → Resolved → List Label → Inherited
libraries_in items r ls = with_libraries items r nothing_inherited ls

-- it is what is taken from the libraries that a target inherits
abbrev pub AreTaken : List ℕ → List Item → Resolved → Label → Inherited → Type 0
AreTaken default items r t h = (ls : List Label) × IsInherited default (shape_of items) t ls × (h ≡ libraries_in items r ls)

-- What is made of a target

-- the record of its item, by what its configurations hold and by the done files for which its objects wait
pub record IsLinked (a : Around) (default : List ℕ) (items : List Item) (r : Resolved) (t : Label) (configs : List (List (Variable × Held))) (hard : List (List ℕ)) (item : Item) (k : Record) : Type 0 where
  pub inherited : Inherited
  pub taken : AreTaken default items r t inherited
  pub is : k ≡ record_of a item configs inherited (dones_from items r t) hard

-- the same where its objects wait for these targets
pub record IsRecordOf (a : Around) (default : List ℕ) (items : List Item) (r : Resolved) (t : Label) (hard : List Label) (item : Item) (k : Record) : Type 0 where
  pub configs : List (List (Variable × Held))
  pub inherited : Inherited
  pub applied : AreFields items t configs
  pub taken : AreTaken default items r t inherited
  pub is : k ≡ record_of a item configs inherited (dones_from items r t) (dones_in r hard)

abbrev pub KnownBy : Option Item → Around → List ℕ → List Item → Resolved → Label → List Label → Option Record → Type 0
KnownBy None a default items r t hard known = known ≡ None
KnownBy (Some item) a default items r t hard known = (k : Record) × (known ≡ Some k) × IsRecordOf a default items r t hard item k

abbrev pub IsKnown : Around → List ℕ → List Item → Resolved → Label → List Label → Option Record → Type 0
IsKnown a default items r t hard known = KnownBy (item_at t items) a default items r t hard known

-- what is kept of it is made of what is kept of its dependencies
pub record IsMade (a : Around) (default : List ℕ) (items : List Item) (r : Resolved) (t : Label) (e : Entry) : Type 0 where
  pub pushed : IsPushed (shape_of items) t e.pushed.items
  pub pushed_public : IsPushedPublic (shape_of items) t e.pushed_public.items
  pub hard : AreInOrder default (hard_from (shape_of items) (hard_at r) t) e.hard.items
  pub known : IsKnown a default items r t e.hard.items (record_kept e)

-- it stands with what was kept before
abbrev pub IsPut : Resolved → Resolved → Label → Entry → Type 0
IsPut old new t e = Updates eq-value.it old.entries new.entries t (Some e)
