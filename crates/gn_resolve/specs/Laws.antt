-- What holds of what is kept of targets: it doesn't matter which other targets were resolved before one.
use Rattle.std.specs.Prelude.{◌≡◌, List}
use Rattle.gn_labels.specs.declared.label.Label.{Label}
use Rattle.gn_dependencies.specs.Shape.{all_deps}
use Rattle.gn_items.specs.declared.item.Item.{Item}
use Rattle.gn_labelled.specs.Graphs.{shape_of}
use Rattle.gn_records.specs.Around.{Around}
use Rattle.gn_toolchains.specs.Toolchains.{Surroundings, around_of}
use Rattle.gn_resolve.specs.declared.table.Entry.{Entry}
use Rattle.gn_resolve.specs.declared.table.Resolved.{Resolved}
use Rattle.gn_resolve.specs.Table.{record_kept, AreIn, IsMade}
use Rattle.gn_resolve.specs.Steps.{IsRight, IsHeld}

-- what is kept of some targets is right, and all dependencies of this one are among them
pub record IsEnough (s : Surroundings) (items : List Item) (t : Label) (r : Resolved) : Type 0 where
  pub held : IsHeld s items r
  pub ready : AreIn r (all_deps (shape_of items) t)

-- what is made of it then is right
abbrev pub MakesRight : Type 0
MakesRight = (s : Surroundings) (items : List Item) (t : Label) (r : Resolved) → IsEnough s items t r → (a : Around) → a ≡ around_of s items t.toolchain
    → (e : Entry) → IsMade a s.default items r t e → IsRight s items t e

-- so it is the same whichever part of the targets was resolved
pub record AreSame (one other : Entry) : Type 0 where
  pub pushed : one.pushed.items ≡ other.pushed.items
  pub pushed_public : one.pushed_public.items ≡ other.pushed_public.items
  pub hard : one.hard.items ≡ other.hard.items
  pub known : record_kept one ≡ record_kept other

abbrev pub PartIsEnough : Type 0
PartIsEnough = (s : Surroundings) (items : List Item) (t : Label) (part all : Resolved) → IsEnough s items t part → IsEnough s items t all
    → (a : Around) → a ≡ around_of s items t.toolchain → (one other : Entry) → IsMade a s.default items part t one → IsMade a s.default items all t other → AreSame one other
