-- What an execution leaves beside its variables.
use Rattle.std.specs.Prelude.{ℕ, Bool, List, [], ◌∷◌, ◌++◌, Option, Some, None, if◌then◌else◌}
use Rattle.std.specs.List.{list_any}
use Rattle.std.specs.Str.{bytes_eq}
use Rattle.std.specs.Prelude.{◌&&◌}
use Rattle.gn_labels.specs.declared.label.Label.{Label}
use Rattle.gn_runs.specs.Runs.{Question}
use Rattle.gn_rows.specs.declared.kinds.ItemKind.{ItemKind}
use Rattle.gn_rows.specs.declared.kinds.ItemKind.TheVariants.{Toolchain, Tool as ToolKind}
use Rattle.gn_items.specs.declared.item.Item.{Item}
use Rattle.gn_items.specs.declared.tool.Tool.{Tool}
use Rattle.gn_items.specs.Tools.{has_name}
use Rattle.gn_items.specs.declared.written.Written.{Written}
use Rattle.gn_items.specs.declared.declaration.Declaration.{Declaration}
use Rattle.gn_items.specs.declared.default_toolchain.DefaultToolchain.{DefaultToolchain}

-- the items, the lines printed, the files written, the questions asked and the arguments declared, each in order, and the default toolchain, where one
-- is named. A path may be written more than once, and a default toolchain named so: then the last counts. While the block of a toolchain is open, the
-- tools that have been defined in it; else there are none
pub record Effects : Type 0 where
  pub items : List Item
  pub tools : List Tool
  pub prints : List (List ℕ)
  pub written : List Written
  pub asked : List Question
  pub declared : List Declaration
  pub default_toolchain : Option DefaultToolchain

abbrev pub no_effects : Effects
no_effects = record { items = []; tools = []; prints = []; written = []; asked = []; declared = []; default_toolchain = None }

-- whether two labels are equal
abbrev pub same_label : Label → Label → Bool
same_label a b = bytes_eq a.dir b.dir && (bytes_eq a.name b.name && bytes_eq a.toolchain b.toolchain)

-- whether an item has the label
unfoldable pub is_defined : Label → Effects → Bool
is_defined label effects = list_any (λ (item : Item). same_label label item.label) effects.items

-- the first of these items that has the label
abbrev pub item_at : Label → List Item → Option Item
item_at label [] = None
item_at label (item ∷ items) = if same_label label item.label then Some item else item_at label items

-- one more item
unfoldable pub with_item : Item → Effects → Effects
with_item item effects = record effects { items = effects.items ++ item ∷ [] }

-- one more tool of the toolchain whose block is open
unfoldable pub with_tool : Tool → Effects → Effects
with_tool tool effects = record effects { tools = effects.tools ++ tool ∷ [] }

-- what has been defined, as a tool
abbrev pub as_tool : Item → Tool
as_tool item = record { name = item.label.name; place = item.place; fields = item.fields }

-- a toolchain has the tools that were defined in its block
abbrev pub with_toolchain : Item → Effects → Effects
with_toolchain item effects = with_item (record item { tools = effects.tools }) (record effects { tools = [] })

-- what a call of this kind has defined stands with the others from then on
abbrev pub with_defined : ItemKind → Item → Effects → Effects
with_defined ToolKind item effects = with_tool (as_tool item) effects
with_defined Toolchain item effects = with_toolchain item effects
with_defined _ item effects = with_item item effects

-- whether something has been defined already that is known by the same name: a tool is in its toolchain, and all else by its label
abbrev pub is_known : ItemKind → Item → Effects → Bool
is_known ToolKind item effects = has_name item.label.name effects.tools
is_known _ item effects = is_defined item.label effects

-- one more line
unfoldable pub with_print : List ℕ → Effects → Effects
with_print line effects = record effects { prints = effects.prints ++ line ∷ [] }

-- one more file
unfoldable pub with_written : Written → Effects → Effects
with_written file effects = record effects { written = effects.written ++ file ∷ [] }

-- one more question
abbrev pub with_asked : Question → Effects → Effects
with_asked question effects = record effects { asked = effects.asked ++ question ∷ [] }

-- more arguments
unfoldable pub with_declarations : List Declaration → Effects → Effects
with_declarations declarations effects = record effects { declared = effects.declared ++ declarations }

-- a default toolchain, in place of one that was named before
unfoldable pub with_default_toolchain : DefaultToolchain → Effects → Effects
with_default_toolchain toolchain effects = record effects { default_toolchain = Some toolchain }
