-- What is known of a build when its Ninja files are written.
use Rattle.std.specs.Prelude.{◌≡◌, List, true}
use Rattle.gn_items.specs.declared.item.Item.{Item}
use Rattle.gn_labels.specs.declared.label.Label.{Label}
use Rattle.gn_dependencies.specs.Lists.{has}
use Rattle.gn_toolchains.specs.declared.frames.Frames.{Frames}
use Rattle.gn_toolchains.specs.Toolchains.{Surroundings}
use Rattle.gn_toolchains.specs.Frames.{surroundings, known_of, IsOver}
use Rattle.gn_resolve.specs.declared.table.Resolved.{Resolved}
use Rattle.gn_resolve.specs.Table.{known_in}
use Rattle.gn_resolve.specs.Whole.{AreResolved}
use Rattle.gn_files.specs.declared.project.Project.{Project}
use Rattle.gn_files.specs.Files.{Knowledge}

-- what frames and records tell
abbrev pub looked_up : Frames → Resolved → Knowledge
looked_up frames r = record { around = known_of frames; target = known_in r }

abbrev pub surroundings_in : Project → Surroundings
surroundings_in p = surroundings p.surroundings

-- what is looked up
abbrev pub known : Project → Knowledge
known p = looked_up p.frames p.resolved

-- the targets that are generated are among those that are reached
abbrev pub AreAmong : (targets reached : List Label) → Type 0
AreAmong targets reached = (t : Label) → has targets t ≡ true → has reached t ≡ true

-- these are the items and the targets of a build; it is known what never changes for the targets that are reached, and they are resolved
pub record IsProject (s : Surroundings) (defined : List Item) (reached ts : List Label) (p : Project) : Type 0 where
  pub given : surroundings_in p ≡ s
  pub items : p.items.now ≡ defined
  pub targets : p.targets.now ≡ ts
  pub over : IsOver s defined reached p.frames
  pub resolved : AreResolved s defined reached p.resolved
