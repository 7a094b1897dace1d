-- All targets of a build are resolved.
use Rattle.std.specs.Prelude.{◌≡◌, List, IsSome, true}
use Rattle.gn_labels.specs.declared.label.Label.{Label}
use Rattle.gn_dependencies.specs.Lists.{has}
use Rattle.gn_items.specs.declared.item.Item.{Item}
use Rattle.gn_labelled.specs.Graphs.{shape_of}
use Rattle.gn_resolved_meant.specs.Along.{EndsIn}
use Rattle.gn_resolved_meant.specs.Laws.{IsClosed}
use Rattle.gn_toolchains.specs.declared.frames.Frames.{Frames}
use Rattle.gn_toolchains.specs.Toolchains.{Surroundings}
use Rattle.gn_toolchains.specs.Frames.{known_of}
use Rattle.gn_resolve.specs.declared.table.Resolved.{Resolved}
use Rattle.gn_resolve.specs.Resolved.{labels_in, record_at}
use Rattle.gn_resolve.specs.Table.{known_in}

-- none of the targets reaches a cycle
abbrev pub AllEnd : List Item → List Label → Type 0
AllEnd items ts = (t : Label) → has ts t ≡ true → EndsIn (labels_in items) (shape_of items) t

-- the targets can be resolved: the list has the dependencies of each, none of them reaches a cycle, and it is known what never changes for them
pub record CanBeResolved (frames : Frames) (items : List Item) (ts : List Label) : Type 0 where
  pub closed : IsClosed (shape_of items) ts
  pub ends : AllEnd items ts
  pub framed : (t : Label) → has ts t ≡ true → IsSome (known_of frames t.toolchain)

-- the record of each of the targets is right
abbrev pub AreResolved : Surroundings → List Item → List Label → Resolved → Type 0
AreResolved s items ts r = (t : Label) → has ts t ≡ true → known_in r t ≡ record_at s items t
