-- What is made of a target whose dependencies are kept rightly is right.
use Rattle.std.proofs.Common.{◌≡◌, ℕ, List, ◌++◌, true, Option, Some, None, refl, sym, ◌∙◌, ap, subst}
use Rattle.std.specs.List.{flat_map}
use Rattle.gn_labels.specs.declared.label.Label.{Label}
use Rattle.gn_rows.specs.declared.variable.Variable.{Variable}
use Rattle.gn_define.specs.Held.{Held}
use Rattle.gn_dependencies.specs.Shape.{Shape, near, all_deps}
use Rattle.gn_dependencies.specs.Configurations.{IsApplied}
use Rattle.gn_dependencies.proofs.Finite.{bounded, free_of_cycles}
use Rattle.gn_dependencies.proofs.Merge.{flat_map-same}
use Rattle.gn_graph_faults.specs.Order.{AreInOrder}
use Rattle.gn_items.specs.declared.item.Item.{Item}
use Rattle.gn_items.specs.Effects.{item_at}
use Rattle.gn_labelled.specs.Graphs.{shape_of}
use Rattle.gn_writing.specs.declared.records.Dones.{Dones}
use Rattle.gn_records.specs.Around.{Around}
use Rattle.gn_records.specs.declared.inherited.Inherited.{Inherited}
use Rattle.gn_records.specs.declared.records.Record.{Record}
use Rattle.gn_records.specs.Records.{record_of}
use Rattle.gn_resolved_meant.specs.Along.{EndsIn, applied_in}
use Rattle.gn_resolved_meant.specs.Reached.{hard_in, hard_of}
use Rattle.gn_resolved_meant.specs.Inherited.{inherited_in}
use Rattle.gn_resolved_meant.specs.Laws.{IsTheOne, hard_from, HardAreLedTo, AreTheHard, AreTheInherited}
use Rattle.gn_toolchains.specs.Toolchains.{Surroundings, around_of}
use Rattle.gn_resolve.specs.declared.table.Entry.{Entry}
use Rattle.gn_resolve.specs.declared.table.Resolved.{Resolved}
use Rattle.gn_resolve.specs.Resolved.{labels_in, configs_at, inherited_from, inherited_at, dones_at, hard_at as hard_meant, record_in, record_at}
use Rattle.gn_resolve.specs.Table.{is_in, record_kept, AreIn, hard_at, dones_in, dones_from, configs_of, AreFields, AreTaken, IsRecordOf, KnownBy, IsKnown, IsMade}
use Rattle.gn_resolve.specs.Steps.{IsRight, IsHeld}
use Rattle.gn_resolve.proofs.Items.{label_found, only_items}
use Rattle.gn_resolve.proofs.Held.{ExportsAlone, ObjectsAlone, near_all, hard_right, dones_right, dones_from_right, end_in, libraries_are_in}
use Rattle.gn_resolve.proofs.LibraryLists.{libraries_right}

-- what is known of records, and of what comes along dependencies
pub record Known : Type 0 where
  pub exports : ExportsAlone
  pub objects : ObjectsAlone
  pub applied : IsTheOne applied_in IsApplied
  pub led : HardAreLedTo
  pub hard : AreTheHard
  pub inherited : AreTheInherited

module _ (laws : Known) (s : Surroundings) (items : List Item) (r : Resolved) (held : IsHeld s items r) (t : Label) (ready : AreIn r (all_deps (shape_of items) t)) where
  abbrev g : Shape
  g = shape_of items

  abbrev all : List Label
  all = labels_in items

  -- ---- configurations
  configs_right : (fields : List (List (Variable × Held))) → AreFields items t fields → fields ≡ configs_at items t
  unfolding configs_at
  configs_right fields (ls, is, e) = e ∙ ap (configs_of items) (laws.applied all g (only_items items) t ls is)

  -- ---- actions and copies
  hard_same : (default : List ℕ) → s.default ≡ default → (xs : List Label) → AreInOrder default (hard_from g (hard_at r) t) xs → xs ≡ hard_in all s.default g t
  hard_same default e xs is =
      laws.hard all s.default g (only_items items) t xs
      (subst (λ (d : List ℕ). AreInOrder d (hard_from g (hard_in all s.default g) t) xs) (sym e)
      (subst (λ (z : List Label). AreInOrder default (hard_of g (near g t) ++ z) xs) along is))
    where
      along : flat_map (hard_at r) (near g t) ≡ flat_map (hard_in all s.default g) (near g t)
      along = flat_map-same (hard_at r) (hard_in all s.default g) (near g t) (λ d h. hard_right s items r held d (ready d (near_all g t d h)))

  hard_are_in : AreIn r (hard_in all s.default g t)
  hard_are_in q h =
      let l = (laws.led all s.default g (only_items items) t q).0 h in
      let p = l.1 in
      subst (λ (z : Label). is_in r z ≡ true) p.2 (end_in s items r held t p.0 ready p.1)

  hard_right_here : (hard : List Label) → hard ≡ hard_in all s.default g t → dones_in r hard ≡ hard_meant s items t
  hard_right_here hard e = ap (dones_in r) e ∙ dones_right s items r held laws.exports (hard_in all s.default g t) hard_are_in

  -- ---- libraries
  taken_right : EndsIn all g t → (default : List ℕ) → s.default ≡ default → (h : Inherited) → AreTaken default items r t h → h ≡ inherited_at s items t
  taken_right ends default d h (ls, is, e) =
      e ∙ libraries_right laws.exports laws.objects s items r held ls (libraries_are_in s items r held t ready default ls is)
      ∙ ap (inherited_from s items) (laws.inherited all default g t ends ls is ∙ ap (λ (z : List ℕ). inherited_in all z g t) (sym d))

  -- ---- the record
  module _ (a : Around) (around : a ≡ around_of s items t.toolchain) (default : List ℕ) (same : s.default ≡ default) (ends : EndsIn all g t) (hard : List Label) (hard_is : hard ≡ hard_in all s.default g t) where
    -- of the item that is found
    abbrev meant : Item → Label → Record
    meant item q = record_of (around_of s items q.toolchain) item (configs_at items q) (inherited_at s items q) (dones_at s items q) (hard_meant s items q)

    is_meant : (item : Item) (k : Record) → IsRecordOf a default items r t hard item k → k ≡ meant item t
    is_meant item k is =
        is.is
        ∙ ap (λ (z : Around). record_of z item is.configs is.inherited (dones_from items r t) (dones_in r hard)) around
        ∙ ap (λ (z : List (List (Variable × Held))). record_of (around_of s items t.toolchain) item z is.inherited (dones_from items r t) (dones_in r hard)) (configs_right is.configs is.applied)
        ∙ ap (λ (z : Inherited). record_of (around_of s items t.toolchain) item (configs_at items t) z (dones_from items r t) (dones_in r hard)) (taken_right ends default same is.inherited is.taken)
        ∙ ap (λ (z : Dones). record_of (around_of s items t.toolchain) item (configs_at items t) (inherited_at s items t) z (dones_in r hard)) (dones_from_right s items r held laws.exports t ready)
        ∙ ap (λ (z : List (List ℕ)). record_of (around_of s items t.toolchain) item (configs_at items t) (inherited_at s items t) (dones_at s items t) z) (hard_right_here hard hard_is)

    known_by : (known : Option Record) (o : Option Item) → item_at t items ≡ o → KnownBy o a default items r t hard known → known ≡ record_in s items o
    known_by known None e is = is
    known_by known (Some item) e (k, is, made) = is ∙ ap Some (is_meant item k made ∙ ap (meant item) (sym (label_found t items item e)))

    known_right_here : (known : Option Record) → IsKnown a default items r t hard known → known ≡ record_at s items t
    unfolding record_at
    known_right_here known is = known_by known (item_at t items) refl is

  pub made_right : (a : Around) → a ≡ around_of s items t.toolchain → (default : List ℕ) → s.default ≡ default → (e : Entry) → IsMade a default items r t e → IsRight s items t e
  made_right a around default same e made =
      let ends : EndsIn all g t = bounded g all (only_items items) t (free_of_cycles g made.pushed.depth t made.pushed.ends) in
      let hard : e.hard.items ≡ hard_in all s.default g t = hard_same default same e.hard.items made.hard in
      record {
        pushed = made.pushed;
        pushed_public = made.pushed_public;
        hard = hard;
        known = known_right_here a around default same ends e.hard.items hard (record_kept e) made.known;
      }
