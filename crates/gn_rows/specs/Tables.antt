-- Which rows and which demands a kind has. The rows themselves stand in the code.
use Rattle.std.specs.Prelude.{ℕ, List, [], Option, Some}
use Rattle.gn_rows.specs.declared.kinds.ItemKind.{ItemKind}
use Rattle.gn_rows.specs.declared.kinds.ItemKind.TheVariants as kinds
use Rattle.gn_rows.specs.declared.kinds.ToolName.{ToolName}
use Rattle.gn_rows.specs.declared.kinds.ToolName.TheVariants as tools
use Rattle.gn_rows.specs.declared.row.Row.{Row}
use Rattle.gn_rows.specs.declared.row.Demand.{Demand}
use Rattle.gn_rows.specs.declared.targets.TheConstants.{TARGET_ROWS, ACTION_DEMANDS, FOREACH_DEMANDS, COPY_DEMANDS}
use Rattle.gn_rows.specs.declared.others.TheConstants.{CONFIG_ROWS, POOL_ROWS, POOL_DEMANDS, TOOLCHAIN_ROWS, TOOL_ROWS, TOOL_DEMANDS, PLAIN_TOOL_DEMANDS}
use Rattle.gn_rows.specs.Names.{tool_named}

-- the rows of a kind, in the order in which they are looked at
abbrev pub rows_of : ItemKind → List Row
rows_of kinds.Config = CONFIG_ROWS
rows_of kinds.Pool = POOL_ROWS
rows_of kinds.Toolchain = TOOLCHAIN_ROWS
rows_of kinds.Tool = TOOL_ROWS
rows_of _ = TARGET_ROWS

-- what a tool demands: `copy` and `stamp` have no outputs of their own
abbrev pub tool_demands : Option ToolName → List Demand
tool_demands (Some tools.Copy) = PLAIN_TOOL_DEMANDS
tool_demands (Some tools.Stamp) = PLAIN_TOOL_DEMANDS
tool_demands _ = TOOL_DEMANDS

-- what a kind demands of its variables, in the order in which it is judged
abbrev pub demands_of : ItemKind → List ℕ → List Demand
demands_of kinds.Action name = ACTION_DEMANDS
demands_of kinds.ActionForeach name = FOREACH_DEMANDS
demands_of kinds.Copy name = COPY_DEMANDS
demands_of kinds.Pool name = POOL_DEMANDS
demands_of kinds.Tool name = tool_demands (tool_named name)
demands_of _ name = []
