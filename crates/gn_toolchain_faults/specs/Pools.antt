-- The pools that the tools of a toolchain name, and what is wrong with them.
use Rattle.std.specs.Prelude.{ℕ, Bool, List, Option, filter}
use Rattle.std.specs.List.{flat_map}
use Rattle.gn_labels.specs.declared.label.Label.{Label}
use Rattle.gn_rows.specs.declared.variable.Variable.TheVariants.{Pool}
use Rattle.gn_define.specs.Fields.{field_at, labels_of}
use Rattle.gn_faults.specs.declared.code.Code.{Code}
use Rattle.gn_faults.specs.declared.code.Code.TheVariants.{Unresolved, WrongKind}
use Rattle.gn_items.specs.declared.item.Item.{Item}
use Rattle.gn_items.specs.declared.tool.Tool.{Tool}
use Rattle.gn_rules.specs.Rules.{is_missing, is_foreign, names_pool}
use Rattle.gn_labelled.specs.Graphs.{shape_of}
use Rattle.gn_toolchain_faults.specs.declared.pools.Wrong.{Wrong}
use Rattle.gn_toolchain_faults.specs.declared.pools.Wrong.TheVariants.{Missing, Foreign}
use Rattle.gn_toolchain_faults.specs.Least.{least_label}

-- the pools that a tool names, and those that tools name
abbrev pub pools_of : Tool → List Label
pools_of tool = labels_of (field_at tool.fields Pool)

abbrev pub pools_named : List Tool → List Label
pools_named tools = flat_map pools_of tools

-- what is wrong with the label of a pool: no item has it, or the first that has it is no pool
abbrev pub is_wrong : Wrong → List Item → Label → Bool
is_wrong Missing items = is_missing (shape_of items)
is_wrong Foreign items = is_foreign names_pool (shape_of items)

-- the code by which it is told
abbrev pub code_of : Wrong → Code
code_of Missing = Unresolved
code_of Foreign = WrongKind

-- the first in label order of the pools that tools name and with which this is wrong
unfoldable pub wrong_pool : Wrong → (default : List ℕ) → List Item → List Tool → Option Label
wrong_pool wrong default items tools = least_label default (filter (is_wrong wrong items) (pools_named tools))
