-- What is kept of targets is right, so what is made of it is.
use Rattle.std.proofs.Common.{◌≡◌, ℕ, List, [], ◌∷◌, Bool, true, false, ◌||◌, ◌&&◌, Option, Some, None, IfSome, is_some, filter, refl, sym, ◌∙◌, ap}
use Rattle.gn_labels.specs.declared.label.Label.{Label}
use Rattle.gn_labels.specs.Labels.{is_before}
use Rattle.gn_rows.specs.declared.variable.Variable.{Variable}
use Rattle.gn_rows.specs.declared.variable.Variable.TheVariants.{DataDeps}
use Rattle.gn_define.specs.Held.{Held}
use Rattle.gn_dependencies.specs.Lists.{same_label, has}
use Rattle.gn_dependencies.specs.Shape.{Shape, Path, near, all_deps, end_from}
use Rattle.gn_dependencies.specs.Configurations.{IsPushed, IsPushedPublic, AreRecorded}
use Rattle.gn_dependencies.specs.Cycles.{IsPath}
use Rattle.gn_dependencies.specs.Walks.{first, onward}
use Rattle.gn_dependencies.specs.Inherited.{links, is_library, Walked, InheritedBy, IsInherited}
use Rattle.gn_dependencies.proofs.Same.{own, same}
use Rattle.gn_dependencies.proofs.Kept.{has-append}
use Rattle.gn_dependencies.proofs.Has.{or_true, has_own, has-filter}
use Rattle.gn_dependencies.proofs.OrderLaws.{inside}
use Rattle.gn_items.specs.declared.item.Item.{Item}
use Rattle.gn_items.specs.Effects.{item_at}
use Rattle.gn_labelled.specs.Graphs.{shape_of}
use Rattle.gn_writing.specs.declared.records.Dones.{Dones}
use Rattle.gn_records.specs.Around.{Around}
use Rattle.gn_records.specs.Alone.{exports_at, objects_at}
use Rattle.gn_records.specs.Made.{objects_of}
use Rattle.gn_records.specs.declared.inherited.Inherited.{Inherited}
use Rattle.gn_records.specs.declared.records.Exports.{Exports}
use Rattle.gn_records.specs.declared.records.Record.{Record}
use Rattle.gn_records.specs.Records.{record_of}
use Rattle.gn_resolved_meant.specs.Reached.{hard_in}
use Rattle.gn_toolchains.specs.Toolchains.{Surroundings, around_of}
use Rattle.gn_resolve.specs.declared.table.Entry.{Entry}
use Rattle.gn_resolve.specs.declared.table.Resolved.{Resolved}
use Rattle.gn_resolve.specs.Resolved.{labels_in, exports_in, exports_of as exports_meant, objects_in, objects_of as objects_meant, dones_of, dones_at, hard_at as hard_meant, configs_at, inherited_at, record_in, record_at}
use Rattle.gn_resolve.specs.Table.{entry_in, is_in, AreIn, pushed_held, pushed_public_held, handed_in, hard_held, hard_at, known_held, known_in, exports_known, objects_known, dones_in, dones_from}
use Rattle.gn_resolve.specs.Steps.{IsRight, IsHeld}

-- What no dependency changes of a record

abbrev pub ExportsAlone : Type 0
ExportsAlone = (c : Around) (i : Item) (configs : List (List (Variable × Held))) (h : Inherited) (d : Dones) (hard : List (List ℕ)) → (record_of c i configs h d hard).exports ≡ exports_at c i configs

abbrev pub ObjectsAlone : Type 0
ObjectsAlone = (c : Around) (i : Item) (configs : List (List (Variable × Held))) (h : Inherited) (d : Dones) (hard : List (List ℕ)) → objects_of (record_of c i configs h d hard).written ≡ objects_at c i

exports_by : ExportsAlone → (s : Surroundings) (items : List Item) (o : Option Item) → exports_known (record_in s items o) ≡ exports_in s items o
exports_by alone s items None = refl
exports_by alone s items (Some i) = alone (around_of s items i.label.toolchain) i (configs_at items i.label) (inherited_at s items i.label) (dones_at s items i.label) (hard_meant s items i.label)

pub exports_right : ExportsAlone → (s : Surroundings) (items : List Item) (q : Label) → exports_known (record_at s items q) ≡ exports_meant s items q
unfolding record_at exports_meant
exports_right alone s items q = exports_by alone s items (item_at q items)

objects_by : ObjectsAlone → (s : Surroundings) (items : List Item) (o : Option Item) → objects_known (record_in s items o) ≡ objects_in s items o
objects_by alone s items None = refl
objects_by alone s items (Some i) = alone (around_of s items i.label.toolchain) i (configs_at items i.label) (inherited_at s items i.label) (dones_at s items i.label) (hard_meant s items i.label)

pub objects_right : ObjectsAlone → (s : Surroundings) (items : List Item) (q : Label) → objects_known (record_at s items q) ≡ objects_meant s items q
unfolding record_at objects_meant
objects_right alone s items q = objects_by alone s items (item_at q items)

-- a dependency is one of all
pub near_all : (g : Shape) (t d : Label) → has (near g t) d ≡ true → has (all_deps g t) d ≡ true
near_all g t d h = has-append (near g t) (g.lists t DataDeps) d ∙ ap (λ b. b || has (g.lists t DataDeps) d) h

pub data_all : (g : Shape) (t d : Label) → has (g.lists t DataDeps) d ≡ true → has (all_deps g t) d ≡ true
data_all g t d h = has-append (near g t) (g.lists t DataDeps) d ∙ ap (λ b. has (near g t) d || b) h ∙ or_true (has (near g t) d)

module _ (s : Surroundings) (items : List Item) (r : Resolved) (held : IsHeld s items r) where
  -- What is kept of one

  known_by : (q : Label) (o : Option Entry) → is_some o ≡ true → IfSome o (IsRight s items q) → known_held o ≡ record_at s items q
  known_by q None h k = absurd (cc h)
  known_by q (Some e) h k = k.known

  pub known_right : (q : Label) → is_in r q ≡ true → known_in r q ≡ record_at s items q
  known_right q h = known_by q (entry_in r q) h (held.right q)

  hard_by : (q : Label) (o : Option Entry) → is_some o ≡ true → IfSome o (IsRight s items q) → hard_held o ≡ hard_in (labels_in items) s.default (shape_of items) q
  hard_by q None h k = absurd (cc h)
  hard_by q (Some e) h k = k.hard

  pub hard_right : (q : Label) → is_in r q ≡ true → hard_at r q ≡ hard_in (labels_in items) s.default (shape_of items) q
  hard_right q h = hard_by q (entry_in r q) h (held.right q)

  handed_by : (q : Label) (o : Option Entry) → is_some o ≡ true → IfSome o (IsRight s items q)
      → IsPushed (shape_of items) q (pushed_held o) × IsPushedPublic (shape_of items) q (pushed_public_held o)
  handed_by q None h k = absurd (cc h)
  handed_by q (Some e) h k = (k.pushed, k.pushed_public)

  pub recorded : (t : Label) → AreIn r (all_deps (shape_of items) t) → AreRecorded (shape_of items) (handed_in r) t
  recorded t ready d h = handed_by d (entry_in r d) (ready d h) (held.right d)

  -- Their done files

  done_right : ExportsAlone → (q : Label) → is_in r q ≡ true → (exports_known (known_in r q)).done ≡ (exports_meant s items q).done
  done_right alone q h =
      ap (λ (k : Option Record). (exports_known k).done) (known_right q h) ∙ ap (λ (e : Exports). e.done) (exports_right alone s items q)

  pub dones_right : ExportsAlone → (ls : List Label) → AreIn r ls → dones_in r ls ≡ dones_of s items ls
  dones_right alone [] all = refl
  dones_right alone (q ∷ ls) all =
      ap (λ (zs : List (List ℕ)). (exports_known (known_in r q)).done ∷ zs) (dones_right alone ls (λ d h. all d (ap (λ c. same_label d q || c) h ∙ or_true (same_label d q))))
      ∙ ap (λ (z : List ℕ). z ∷ dones_of s items ls) (done_right alone q (all q (has_own q ls)))

  pub dones_from_right : ExportsAlone → (t : Label) → AreIn r (all_deps (shape_of items) t) → dones_from items r t ≡ dones_at s items t
  dones_from_right alone t ready = λ i. record { deps = deps i; data_deps = data_deps i }
    where
      deps : dones_in r (near (shape_of items) t) ≡ dones_of s items (near (shape_of items) t)
      deps = dones_right alone (near (shape_of items) t) (λ d h. ready d (near_all (shape_of items) t d h))

      data_deps : dones_in r ((shape_of items).lists t DataDeps) ≡ dones_of s items ((shape_of items).lists t DataDeps)
      data_deps = dones_right alone ((shape_of items).lists t DataDeps) (λ d h. ready d (data_all (shape_of items) t d h))

  -- What dependencies lead to

  pub end_in : (t : Label) (p : Path) → AreIn r (all_deps (shape_of items) t) → IsPath (near (shape_of items)) t p → is_in r (end_from t p) ≡ true
  end_in t [] ready i = absurd i
  end_in t (d ∷ []) ready i = ready d (near_all (shape_of items) t d i)
  end_in t (d ∷ e ∷ p) ready i = end_in d (e ∷ p) (held.closed d (ready d (near_all (shape_of items) t d i.0))) i.1

  module _ (t : Label) (ready : AreIn r (all_deps (shape_of items) t)) where
    walked_in : (q : Label) → Walked (shape_of items) t q → is_in r q ≡ true
    walked_in q (first d h m) = ready d (near_all (shape_of items) t d h)
    walked_in q (onward c d w o h m) = held.closed c (walked_in c w) d (near_all (shape_of items) c d h)

    libraries_by : (default : List ℕ) (ls : List Label) (b : Bool) → InheritedBy b default (shape_of items) t ls → AreIn r ls
    libraries_by default ls false none q h = absurd (cc (sym (ap (λ (z : List Label). has z q) none) ∙ h))
    libraries_by default ls true (xs, order, is) q h =
        let k : has (filter (λ c. is_library ((shape_of items).kind c)) xs) q ≡ true = sym (ap (λ (z : List Label). has z q) is) ∙ h in
        let w : has xs q ≡ true = left (has xs q) (is_library ((shape_of items).kind q)) (sym (has-filter (λ c. is_library ((shape_of items).kind c)) q xs) ∙ k) in
        walked_in q (inside same_label own same (near (shape_of items)) (is_before default) (Walked (shape_of items) t) xs order q w)
      where
        left : (a b : Bool) → (a && b) ≡ true → a ≡ true
        left true b e = refl
        left false b e = absurd (cc e)

    pub libraries_are_in : (default : List ℕ) (ls : List Label) → IsInherited default (shape_of items) t ls → AreIn r ls
    libraries_are_in default ls is = libraries_by default ls (links ((shape_of items).kind t)) is
