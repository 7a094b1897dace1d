-- What several threads make of targets is put with what is kept.
use Rattle.std.specs.Prelude.{◌≡◌, List, [], ◌∷◌, Option, IfSome, true, ⊤}
use Rattle.gn_labels.specs.declared.label.Label.{Label}
use Rattle.gn_dependencies.specs.Shape.{all_deps}
use Rattle.gn_items.specs.declared.item.Item.{Item}
use Rattle.gn_labelled.specs.Graphs.{shape_of}
use Rattle.gn_toolchains.specs.Toolchains.{Surroundings}
use Rattle.gn_resolve.specs.declared.table.Entry.{Entry}
use Rattle.gn_resolve.specs.declared.table.Resolved.{Resolved}
use Rattle.gn_resolve.specs.Table.{is_in, AreIn}
use Rattle.gn_resolve.specs.Steps.{IsRight, IsHeld}

-- this is right of the target of this label, whose dependencies are resolved
pub record IsReady (s : Surroundings) (items : List Item) (r : Resolved) (made : Label × Entry) : Type 0 where
  pub deps : AreIn r (all_deps (shape_of items) made.0)
  pub right : IsRight s items made.0 made.1

abbrev pub CanBePut : Surroundings → List Item → Resolved → Option (Label × Entry) → Type 0
CanBePut s items r made = IfSome made (IsReady s items r)

abbrev pub AllCanBePut : Surroundings → List Item → Resolved → List (Option (Label × Entry)) → Type 0
AllCanBePut s items r [] = ⊤
AllCanBePut s items r (one ∷ made) = CanBePut s items r one × AllCanBePut s items r made

-- what was resolved is, and what is kept stays right with what can be put
pub record Takes (s : Surroundings) (items : List Item) (old new : Resolved) (made : List (Option (Label × Entry))) : Type 0 where
  pub kept : (q : Label) → is_in old q ≡ true → is_in new q ≡ true
  pub held : IsHeld s items old → AllCanBePut s items old made → IsHeld s items new

abbrev pub TakesAll : (old new : Resolved) → List (Option (Label × Entry)) → Type 0
TakesAll old new made = (s : Surroundings) (items : List Item) → Takes s items old new made
