-- Words for laws of the texts that are no paths.
use Rattle.std.specs.Prelude.{◌≡◌, ◌↔◌, ◌≤◌, ℕ, List, true, Option, None, Some, is_some, length, slice_get}
use Rattle.gn_paths.specs.declared.error.PathFault.{PathFault}
use Rattle.gn_faults.specs.declared.code.Code.{Code}
use Rattle.gn_faults.specs.Numbers.{code_number}
use Rattle.gn_rows.specs.declared.kinds.ItemKind.{ItemKind}
use Rattle.gn_rows.specs.declared.kinds.ItemKind.TheVariants.{SharedLibrary}
use Rattle.gn_rows.specs.declared.kinds.ToolName.{ToolName}
use Rattle.gn_rows.specs.declared.variable.Variable.TheVariants.{Sources, Outputs, LinkOutput, DependOutput}
use Rattle.gn_substs.specs.declared.positions.Position.{Position}
use Rattle.gn_substs.specs.declared.positions.Position.TheVariants.{ToolLinkOutput, ToolDependOutput}
use Rattle.gn_substs.specs.declared.subst.Subst.{Subst}
use Rattle.gn_define.specs.Fields.{field_at, paths_of}
use Rattle.gn_items.specs.declared.item.Item.{Item}
use Rattle.gn_items.specs.declared.tool.Tool.{Tool}
use Rattle.gn_writing.specs.declared.sources.SourceUse.TheVariants.{Built}
use Rattle.gn_writing.specs.Outputs.{OutputValues, tool_outputs}
use Rattle.gn_writing.specs.Sources.{use_of}
use Rattle.gn_records.specs.declared.output.Output.{Output}
use Rattle.gn_records.specs.Around.{Around}
use Rattle.gn_records.specs.Compiled.{outs_of_tool, unit_of}
use Rattle.gn_records.specs.Output.{own_tool, tool_where, tool_given, substs_of_tool, values_for, output_of}
use Rattle.gn_records.specs.Outputs.{for_none}
use Rattle.gn_tool_texts.specs.Least.{path_code}
use Rattle.gn_tool_texts.specs.Used.{is_compiled, faults_used, wrong_text}

-- the code is that of a text which the item uses
abbrev pub IsAmong : Around → Item → Code → Type 0
IsAmong c i code = (k : ℕ) × (fault : PathFault) × (slice_get (faults_used c i) k ≡ Some fault) × (code ≡ path_code fault)

-- a code that is told is that of a text which the item uses, and none of these has a lesser number
abbrev pub WhatIsToldIsLeast : Type 0
WhatIsToldIsLeast = (c : Around) (i : Item) (code : Code) → wrong_text c i ≡ Some code
    → IsAmong c i code × ((other : Code) → IsAmong c i other → code_number code ≤ code_number other)

-- the tool that makes a target's output, that output, and what the target gives to the texts of tools
abbrev pub own_tool_of : Around → Item → Option Tool
own_tool_of c i = tool_where c (own_tool i.kind)

abbrev pub own_output : Around → Item → Output
own_output c i = output_of c i (own_tool_of c i)

abbrev pub own_values : Around → Item → OutputValues
own_values c i = values_for c i (own_output c i)

-- there is a path for each of these texts
abbrev pub HasEach : List (List ℕ) → List Subst → Type 0
HasEach paths texts = length paths ≡ length texts

-- of each source that a tool builds, what that tool makes
abbrev pub HasEachOfSources : Around → Item → OutputValues → Type 0
HasEachOfSources c i n =
    (k : ℕ) (source : List ℕ) (tool : ToolName) → slice_get (paths_of (field_at i.fields Sources)) k ≡ Some source → use_of source ≡ Built tool
    → HasEach (unit_of c i n tool source).outs (substs_of_tool Outputs (tool_where c (Some tool)))

-- what the tool makes that makes the output
abbrev pub HasEachOutput : OutputValues → Option Tool → Type 0
HasEachOutput n tool = HasEach (outs_of_tool n for_none tool) (substs_of_tool Outputs tool)

-- of a shared library, what is linked of it and what stands for it
abbrev pub HasEachAt : Position → OutputValues → List Subst → Type 0
HasEachAt position n texts = HasEach (tool_outputs n (tool_given position n for_none) texts) texts

abbrev pub HasEachIfShared : ItemKind → OutputValues → Option Tool → Type 0
HasEachIfShared kind n tool = kind ≡ SharedLibrary
    → HasEachAt ToolLinkOutput n (substs_of_tool LinkOutput tool) × HasEachAt ToolDependOutput n (substs_of_tool DependOutput tool)

-- what is written of a target has a directory for its output, and a path for each text that it uses
abbrev pub IsWhole : Around → Item → Type 0
IsWhole c i = (is_some (own_output c i).directory ≡ true)
    × HasEachOfSources c i (own_values c i)
    × HasEachOutput (own_values c i) (own_tool_of c i)
    × HasEachIfShared i.kind (own_values c i) (own_tool_of c i)

-- of a target that is compiled nothing is told exactly where nothing is left out of what is written of it
abbrev pub WholeExactly : Type 0
WholeExactly = (c : Around) (i : Item) → is_compiled i.kind ≡ true → (wrong_text c i ≡ None ↔ IsWhole c i)
