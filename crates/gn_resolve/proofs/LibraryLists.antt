-- What is taken from libraries one after the other is what they give together.
use Rattle.std.proofs.Common.{◌≡◌, ℕ, List, [], ◌∷◌, ◌++◌, Bool, true, false, ◌||◌, cond, Option, Some, None, map, refl, sym, ◌∙◌, ap, append_assoc, append-nil}
use Rattle.std.specs.List.{flat_map}
use Rattle.gn_labels.specs.declared.label.Label.{Label}
use Rattle.gn_rows.specs.declared.kinds.ItemKind.{ItemKind}
use Rattle.gn_rows.specs.declared.kinds.ItemKind.TheVariants as kinds
use Rattle.gn_dependencies.specs.Lists.{same_label}
use Rattle.gn_dependencies.proofs.Has.{or_true, has_own}
use Rattle.gn_items.specs.declared.item.Item.{Item}
use Rattle.gn_items.specs.Effects.{item_at}
use Rattle.gn_labelled.specs.Graphs.{kind_at, shape_of}
use Rattle.gn_records.specs.Made.{objects_of}
use Rattle.gn_records.specs.declared.inherited.Inherited.{Inherited}
use Rattle.gn_records.specs.declared.records.Exports.{Exports}
use Rattle.gn_records.specs.declared.records.Record.{Record}
use Rattle.gn_toolchains.specs.Toolchains.{Surroundings, around_of}
use Rattle.gn_resolve.specs.declared.table.Resolved.{Resolved}
use Rattle.gn_resolve.specs.Resolved.{exports_in, exports_of, objects_in, objects_of as objects_meant, record_in, record_with, record_at, is_set, is_static, is_shared, those, dones_at, hard_at as hard_meant, configs_at, inherited_at, inherited_from}
use Rattle.gn_resolve.specs.Table.{AreIn, known_in, nothing_inherited, with_libs, with_kind, with_library, with_libraries, libraries_in}
use Rattle.gn_resolve.specs.Steps.{IsHeld}
use Rattle.gn_resolve.proofs.Held.{ExportsAlone, ObjectsAlone, known_right}

-- one behind the other
abbrev joined : Inherited → Inherited → Inherited
joined a b = record {
  set_objects = a.set_objects ++ b.set_objects;
  set_dones = a.set_dones ++ b.set_dones;
  statics = a.statics ++ b.statics;
  shared = a.shared ++ b.shared;
  solibs = a.solibs ++ b.solibs;
  libs = a.libs ++ b.libs;
  lib_dirs = a.lib_dirs ++ b.lib_dirs;
}

-- what one gives by its kind, and what the rest gives
abbrev more : Option ItemKind → List (List ℕ) → Exports → Inherited → Inherited
more kind objects e rest = record {
  set_objects = cond (is_set kind) (objects ++ rest.set_objects) rest.set_objects;
  set_dones = cond (is_set kind) (e.done ∷ rest.set_dones) rest.set_dones;
  statics = cond (is_static kind) (e.linked ∷ rest.statics) rest.statics;
  shared = cond (is_shared kind) (e.done ∷ rest.shared) rest.shared;
  solibs = cond (is_shared kind) (e.linked ∷ rest.solibs) rest.solibs;
  libs = e.libs ++ rest.libs;
  lib_dirs = e.lib_dirs ++ rest.lib_dirs;
}

-- ---- one more in front
flat_step : (f : Label → List (List ℕ)) (q : Label) (ls : List Label) (b : Bool) → flat_map f (cond b (q ∷ ls) ls) ≡ cond b (f q ++ flat_map f ls) (flat_map f ls)
flat_step f q ls true = refl
flat_step f q ls false = refl

map_step : (f : Label → List ℕ) (q : Label) (ls : List Label) (b : Bool) → map f (cond b (q ∷ ls) ls) ≡ cond b (f q ∷ map f ls) (map f ls)
map_step f q ls true = refl
map_step f q ls false = refl

given_step : (s : Surroundings) (items : List Item) (q : Label) (ls : List Label)
    → inherited_from s items (q ∷ ls) ≡ more ((shape_of items).kind q) (objects_meant s items q) (exports_of s items q) (inherited_from s items ls)
given_step s items q ls = λ i. record {
  set_objects = flat_step (objects_meant s items) q (those is_set items ls) (is_set ((shape_of items).kind q)) i;
  set_dones = map_step (λ (t : Label). (exports_of s items t).done) q (those is_set items ls) (is_set ((shape_of items).kind q)) i;
  statics = map_step (λ (t : Label). (exports_of s items t).linked) q (those is_static items ls) (is_static ((shape_of items).kind q)) i;
  shared = map_step (λ (t : Label). (exports_of s items t).done) q (those is_shared items ls) (is_shared ((shape_of items).kind q)) i;
  solibs = map_step (λ (t : Label). (exports_of s items t).linked) q (those is_shared items ls) (is_shared ((shape_of items).kind q)) i;
  libs = flat_map (λ (t : Label). (exports_of s items t).libs) (q ∷ ls);
  lib_dirs = flat_map (λ (t : Label). (exports_of s items t).lib_dirs) (q ∷ ls);
}

-- ---- one more behind
module _ (h : Inherited) (objects : List (List ℕ)) (e : Exports) (rest : Inherited) where
  abbrev IsBehind : Option ItemKind → Type 0
  IsBehind kind = joined (with_libs (with_kind kind h objects e) e) rest ≡ joined h (more kind objects e rest)

  plain : joined (with_libs h e) rest ≡ joined h (record rest { libs = e.libs ++ rest.libs; lib_dirs = e.lib_dirs ++ rest.lib_dirs })
  plain = λ i. record {
    set_objects = h.set_objects ++ rest.set_objects;
    set_dones = h.set_dones ++ rest.set_dones;
    statics = h.statics ++ rest.statics;
    shared = h.shared ++ rest.shared;
    solibs = h.solibs ++ rest.solibs;
    libs = append_assoc h.libs e.libs rest.libs i;
    lib_dirs = append_assoc h.lib_dirs e.lib_dirs rest.lib_dirs i;
  }

  behind : (kind : Option ItemKind) → IsBehind kind
  behind None = plain
  behind (Some kinds.SourceSet) = λ i. record {
    set_objects = append_assoc h.set_objects objects rest.set_objects i;
    set_dones = append_assoc h.set_dones (e.done ∷ []) rest.set_dones i;
    statics = h.statics ++ rest.statics;
    shared = h.shared ++ rest.shared;
    solibs = h.solibs ++ rest.solibs;
    libs = append_assoc h.libs e.libs rest.libs i;
    lib_dirs = append_assoc h.lib_dirs e.lib_dirs rest.lib_dirs i;
  }
  behind (Some kinds.StaticLibrary) = λ i. record {
    set_objects = h.set_objects ++ rest.set_objects;
    set_dones = h.set_dones ++ rest.set_dones;
    statics = append_assoc h.statics (e.linked ∷ []) rest.statics i;
    shared = h.shared ++ rest.shared;
    solibs = h.solibs ++ rest.solibs;
    libs = append_assoc h.libs e.libs rest.libs i;
    lib_dirs = append_assoc h.lib_dirs e.lib_dirs rest.lib_dirs i;
  }
  behind (Some kinds.SharedLibrary) = λ i. record {
    set_objects = h.set_objects ++ rest.set_objects;
    set_dones = h.set_dones ++ rest.set_dones;
    statics = h.statics ++ rest.statics;
    shared = append_assoc h.shared (e.done ∷ []) rest.shared i;
    solibs = append_assoc h.solibs (e.linked ∷ []) rest.solibs i;
    libs = append_assoc h.libs e.libs rest.libs i;
    lib_dirs = append_assoc h.lib_dirs e.lib_dirs rest.lib_dirs i;
  }
  behind (Some kinds.Group) = plain
  behind (Some kinds.Executable) = plain
  behind (Some kinds.LoadableModule) = plain
  behind (Some kinds.Action) = plain
  behind (Some kinds.ActionForeach) = plain
  behind (Some kinds.Copy) = plain
  behind (Some kinds.Config) = plain
  behind (Some kinds.Pool) = plain
  behind (Some kinds.Toolchain) = plain
  behind (Some kinds.Tool) = plain

module _ (exports : ExportsAlone) (objects : ObjectsAlone) (s : Surroundings) (items : List Item) where
  -- one whose record is right gives what it is to give
  one_by : (h rest : Inherited) (o : Option Item)
      → joined (with_library (kind_at o) h (record_in s items o)) rest ≡ joined h (more (kind_at o) (objects_in s items o) (exports_in s items o) rest)
  one_by h rest None = refl
  one_by h rest (Some i) =
      let k : Record = record_with s items i in
      behind h (objects_of k.written) k.exports rest (Some i.kind)
      ∙ ap (λ (z : List (List ℕ)). joined h (more (Some i.kind) z k.exports rest)) (objects (around_of s items i.label.toolchain) i (configs_at items i.label) (inherited_at s items i.label) (dones_at s items i.label) (hard_meant s items i.label))
      ∙ ap (λ (e : Exports). joined h (more (Some i.kind) (objects_in s items (Some i)) e rest)) (exports (around_of s items i.label.toolchain) i (configs_at items i.label) (inherited_at s items i.label) (dones_at s items i.label) (hard_meant s items i.label))

  one : (h rest : Inherited) (q : Label)
      → joined (with_library ((shape_of items).kind q) h (record_at s items q)) rest ≡ joined h (more ((shape_of items).kind q) (objects_meant s items q) (exports_of s items q) rest)
  unfolding record_at objects_meant exports_of
  one h rest q = one_by h rest (item_at q items)

  module _ (r : Resolved) (held : IsHeld s items r) where
    several : (h : Inherited) (ls : List Label) → AreIn r ls → with_libraries items r h ls ≡ joined h (inherited_from s items ls)
    several h [] all = nothing h
      where
        nothing : (h : Inherited) → h ≡ joined h (inherited_from s items [])
        nothing h = λ i. record {
          set_objects = sym (append-nil h.set_objects) i;
          set_dones = sym (append-nil h.set_dones) i;
          statics = sym (append-nil h.statics) i;
          shared = sym (append-nil h.shared) i;
          solibs = sym (append-nil h.solibs) i;
          libs = sym (append-nil h.libs) i;
          lib_dirs = sym (append-nil h.lib_dirs) i;
        }
    several h (q ∷ ls) all =
        several (with_library ((shape_of items).kind q) h (known_in r q)) ls (λ d i. all d (ap (λ c. same_label d q || c) i ∙ or_true (same_label d q)))
        ∙ ap (λ (k : Option Record). joined (with_library ((shape_of items).kind q) h k) (inherited_from s items ls)) (known_right s items r held q (all q (has_own q ls)))
        ∙ one h (inherited_from s items ls) q
        ∙ ap (joined h) (sym (given_step s items q ls))

    -- what is taken from libraries that are resolved is what they give
    pub libraries_right : (ls : List Label) → AreIn r ls → libraries_in items r ls ≡ inherited_from s items ls
    libraries_right ls all = several nothing_inherited ls all
