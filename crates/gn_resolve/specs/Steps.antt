-- Targets are resolved step by step.
use Rattle.std.specs.Prelude.{◌≡◌, ℕ, List, IfSome, IsSome, true}
use Rattle.gn_labels.specs.declared.label.Label.{Label}
use Rattle.gn_dependencies.specs.Lists.{has}
use Rattle.gn_dependencies.specs.Shape.{all_deps}
use Rattle.gn_dependencies.specs.Configurations.{IsPushed, IsPushedPublic}
use Rattle.gn_items.specs.declared.item.Item.{Item}
use Rattle.gn_records.specs.Around.{Around}
use Rattle.gn_labelled.specs.Graphs.{shape_of}
use Rattle.gn_resolved_meant.specs.Reached.{hard_in}
use Rattle.gn_toolchains.specs.declared.frames.Frames.{Frames}
use Rattle.gn_toolchains.specs.Toolchains.{Surroundings, around_of}
use Rattle.gn_toolchains.specs.Frames.{surroundings, known_of}
use Rattle.gn_resolve.specs.declared.table.Entry.{Entry}
use Rattle.gn_resolve.specs.declared.table.Resolved.{Resolved}
use Rattle.gn_resolve.specs.Resolved.{labels_in, record_at}
use Rattle.gn_resolve.specs.Table.{entry_in, is_in, record_kept, AreIn, IsPut}

-- What is known of toolchains

abbrev pub surroundings_of : Frames → Surroundings
surroundings_of frames = surroundings frames.surroundings

-- what is known is so of these items
pub record IsFit (frames : Frames) (default : List ℕ) (items : List Item) : Type 0 where
  pub same : (surroundings_of frames).default ≡ default
  pub right : (text : List ℕ) → IfSome (known_of frames text) (λ a. a ≡ around_of (surroundings_of frames) items text)

-- what never changes in a build, as it is known around a target
abbrev pub surroundings_in : Around → Surroundings
surroundings_in a = record { build = a.build; default = a.default; program = a.program }

-- this is what never changes, among these items, for the targets of the toolchain of this text
pub record IsAround (default : List ℕ) (items : List Item) (text : List ℕ) (a : Around) : Type 0 where
  pub same : a.default ≡ default
  pub right : a ≡ around_of (surroundings_in a) items text

-- What is kept

-- what is kept of a target is right
pub record IsRight (s : Surroundings) (items : List Item) (t : Label) (e : Entry) : Type 0 where
  pub pushed : IsPushed (shape_of items) t e.pushed.items
  pub pushed_public : IsPushedPublic (shape_of items) t e.pushed_public.items
  pub hard : e.hard.items ≡ hard_in (labels_in items) s.default (shape_of items) t
  pub known : record_kept e ≡ record_at s items t

-- it is of each that is resolved, and all of their dependencies are
pub record IsHeld (s : Surroundings) (items : List Item) (r : Resolved) : Type 0 where
  pub right : (q : Label) → IfSome (entry_in r q) (IsRight s items q)
  pub closed : (q : Label) → is_in r q ≡ true → AreIn r (all_deps (shape_of items) q)

-- and stays so with one more target, if that is right and its dependencies are resolved
abbrev pub StaysHeld : Resolved → Resolved → Label → Entry → Type 0
StaysHeld old new t e = (s : Surroundings) (items : List Item) → IsHeld s items old → AreIn old (all_deps (shape_of items) t) → IsRight s items t e → IsHeld s items new

-- Steps

-- one more target is resolved
pub record IsResolved (s : Surroundings) (items : List Item) (t : Label) (old new : Resolved) : Type 0 where
  pub held : IsHeld s items new
  pub put : (e : Entry) × IsPut old new t e

-- these targets were looked at: what was resolved is, and so are those whose dependencies were, where what never changes for them is known
pub record IsStep (frames : Frames) (items : List Item) (ts : List Label) (old new : Resolved) : Type 0 where
  pub held : IsHeld (surroundings_of frames) items new
  pub kept : (q : Label) → is_in old q ≡ true → is_in new q ≡ true
  pub made : (q : Label) → has ts q ≡ true → IsSome (known_of frames q.toolchain) → AreIn old (all_deps (shape_of items) q) → is_in new q ≡ true
