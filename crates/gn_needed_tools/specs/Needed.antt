-- Which tools an item needs, and which of them its toolchain lacks.
use Rattle.std.specs.Prelude.{ℕ, Bool, true, false, List, ◌&&◌, ◌||◌, not, map, filter, if◌then◌else◌}
use Rattle.std.specs.List.{list_any}
use Rattle.std.specs.Str.{bytes_eq}
use Rattle.gn_rows.specs.declared.kinds.ItemKind.{ItemKind}
use Rattle.gn_rows.specs.declared.kinds.ItemKind.TheVariants as kinds
use Rattle.gn_rows.specs.declared.kinds.ToolName.{ToolName}
use Rattle.gn_rows.specs.declared.kinds.ToolName.TheVariants as tools
use Rattle.gn_rows.specs.declared.variable.Variable.TheVariants.{Sources}
use Rattle.gn_rows.specs.Names.{is_target, tool_name}
use Rattle.gn_define.specs.Fields.{field_at, paths_of}
use Rattle.gn_items.specs.declared.item.Item.{Item}
use Rattle.gn_items.specs.declared.tool.Tool.{Tool}
use Rattle.gn_items.specs.Tools.{has_name}
use Rattle.gn_writing.specs.declared.sources.SourceUse.{SourceUse}
use Rattle.gn_writing.specs.declared.sources.SourceUse.TheVariants.{Built}
use Rattle.gn_writing.specs.Sources.{use_of}
use Rattle.gn_needed_tools.specs.declared.missing.TheConstants.{TOOLS}

-- whether two tools are one
abbrev pub is_same : ToolName → ToolName → Bool
is_same tool other = bytes_eq (tool_name tool) (tool_name other)

-- the tool that makes what a target of the kind is known by: its output, or else its stamp
abbrev pub last_tool : ItemKind → ToolName
last_tool kinds.StaticLibrary = tools.Alink
last_tool kinds.Executable = tools.Link
last_tool kinds.SharedLibrary = tools.Solink
last_tool kinds.LoadableModule = tools.SolinkModule
last_tool _ = tools.Stamp

-- whether each item of the kind needs the tool, whatever its sources are: a copy is made by `copy`, and its stamp by `stamp`
abbrev pub needs_by_kind : ItemKind → ToolName → Bool
needs_by_kind kinds.Copy tool = is_same tools.Copy tool || is_same tools.Stamp tool
needs_by_kind kind tool = is_target kind && is_same (last_tool kind) tool

-- whether targets of the kind have objects, which are built of their sources
abbrev pub has_objects : ItemKind → Bool
has_objects kinds.Executable = true
has_objects kinds.StaticLibrary = true
has_objects kinds.SharedLibrary = true
has_objects kinds.SourceSet = true
has_objects kinds.LoadableModule = true
has_objects _ = false

-- whether the tool builds a source, by its extension
abbrev pub is_built_by : ToolName → SourceUse → Bool
is_built_by tool (Built other) = is_same other tool
is_built_by tool _ = false

abbrev pub builds : ToolName → List ℕ → Bool
builds tool source = is_built_by tool (use_of source)

-- whether the item needs the tool for one of its sources
abbrev pub needs_for_sources : Item → ToolName → Bool
needs_for_sources item tool = has_objects item.kind && list_any (builds tool) (paths_of (field_at item.fields Sources))

-- the tools that build sources
abbrev pub is_compiler : ToolName → Bool
is_compiler tools.Asm = true
is_compiler tools.Cc = true
is_compiler tools.Cxx = true
is_compiler _ = false

-- whether the item needs the tool
unfoldable pub needs : Item → ToolName → Bool
needs item tool = if is_compiler tool then needs_for_sources item tool else needs_by_kind item.kind tool

-- the names of those of some tools that the item needs, and of all; `TOOLS` has all tools, in the order of the bytes of their names
abbrev pub needed_among : Item → List ToolName → List (List ℕ)
needed_among item some = map tool_name (filter (needs item) some)

abbrev pub needed_tools : Item → List (List ℕ)
needed_tools item = needed_among item TOOLS

-- whether none of these tools has the name
abbrev pub is_lacking : List Tool → List ℕ → Bool
is_lacking tools name = not (has_name name tools)

-- whether the item needs the tool, and none of these is that tool
abbrev pub is_missing : Item → List Tool → ToolName → Bool
is_missing item tools tool = is_lacking tools (tool_name tool) && needs item tool

-- the names that the item needs and none of these tools has
abbrev pub missing_among : Item → List Tool → List ToolName → List (List ℕ)
missing_among item tools some = filter (is_lacking tools) (needed_among item some)

abbrev pub missing_tools : Item → List Tool → List (List ℕ)
missing_tools item tools = filter (is_lacking tools) (needed_tools item)
