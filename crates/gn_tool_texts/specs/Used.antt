-- Which texts of its toolchain's tools a target uses, and what is told where they are no paths.
use Rattle.std.specs.Prelude.{ℕ, List, [], ◌∷◌, ◌++◌, Bool, true, false, Option, None, Some, option_map, if◌then◌else◌}
use Rattle.std.specs.List.{flat_map}
use Rattle.gn_paths.specs.declared.error.PathFault.{PathFault}
use Rattle.gn_faults.specs.declared.code.Code.{Code}
use Rattle.gn_rows.specs.declared.kinds.ItemKind.{ItemKind}
use Rattle.gn_rows.specs.declared.kinds.ItemKind.TheVariants as kinds
use Rattle.gn_rows.specs.declared.variable.Variable.TheVariants.{Sources, OutputDir, DefaultOutputDir, Outputs, LinkOutput, DependOutput}
use Rattle.gn_substs.specs.declared.positions.Position.TheVariants.{ToolDefaultOutputDir, ToolOutputs, ToolLinkOutput, ToolDependOutput}
use Rattle.gn_substs.specs.declared.subst.Subst.{Subst}
use Rattle.gn_define.specs.Fields.{field_at, paths_of}
use Rattle.gn_items.specs.declared.item.Item.{Item}
use Rattle.gn_items.specs.declared.tool.Tool.{Tool}
use Rattle.gn_writing.specs.declared.sources.SourceUse.{SourceUse}
use Rattle.gn_writing.specs.declared.sources.SourceUse.TheVariants.{Built}
use Rattle.gn_writing.specs.Outputs.{OutputValues}
use Rattle.gn_writing.specs.Sources.{use_of}
use Rattle.gn_records.specs.declared.output.Output.{Output}
use Rattle.gn_records.specs.Around.{Around}
use Rattle.gn_records.specs.Output.{own_tool, tool_where, tool_given, substs_of_tool, values_with, values_for, output_of}
use Rattle.gn_records.specs.Outputs.{for_source, for_none}
use Rattle.gn_tool_texts.specs.Least.{least, path_code}
use Rattle.gn_tool_texts.specs.Texts.{faults_of_text, faults_at}

-- the kinds whose targets use texts of tools: those that have objects, which are built of their sources
abbrev pub is_compiled : ItemKind → Bool
is_compiled kinds.SourceSet = true
is_compiled kinds.StaticLibrary = true
is_compiled kinds.Executable = true
is_compiled kinds.SharedLibrary = true
is_compiled kinds.LoadableModule = true
is_compiled _ = false

-- of a source: the outputs of the tool that builds it, where the toolchain has that tool
abbrev pub faults_by_use : Around → Item → OutputValues → List ℕ → SourceUse → List PathFault
faults_by_use c i n source (Built tool) = faults_at ToolOutputs n (for_source c i ToolOutputs source) (substs_of_tool Outputs (tool_where c (Some tool)))
faults_by_use c i n source _ = []

unfoldable pub faults_for_source : Around → Item → OutputValues → List ℕ → List PathFault
faults_for_source c i n source = faults_by_use c i n source (use_of source)

-- of the tool that makes the output: its outputs
abbrev pub faults_of_outputs : OutputValues → Option Tool → List PathFault
faults_of_outputs n tool = faults_at ToolOutputs n for_none (substs_of_tool Outputs tool)

-- and of a shared library alone what is linked of it, and what stands for it where others wait
abbrev pub faults_if_shared : ItemKind → OutputValues → Option Tool → List PathFault
faults_if_shared kinds.SharedLibrary n tool =
    faults_at ToolLinkOutput n for_none (substs_of_tool LinkOutput tool) ++ faults_at ToolDependOutput n for_none (substs_of_tool DependOutput tool)
faults_if_shared _ n tool = []

-- the fault of the first of some texts for the default directory of outputs
abbrev pub faults_of_first : OutputValues → List Subst → List PathFault
faults_of_first n [] = []
faults_of_first n (text ∷ more) = faults_of_text n.build (tool_given ToolDefaultOutputDir n for_none) text

-- the default directory is used where the target sets none
abbrev pub unless_set : List (List ℕ) → List PathFault → List PathFault
unless_set [] faults = faults
unless_set (path ∷ more) faults = []

unfoldable pub faults_of_directory : Around → Item → Option Tool → Output → List PathFault
faults_of_directory c i tool o =
    unless_set (paths_of (field_at i.fields OutputDir))
    (faults_of_first (values_with c i o.around o.name o.extension None) (substs_of_tool DefaultOutputDir tool))

-- the faults of all texts that a target with this output uses, whose kind has this tool
abbrev pub faults_of_tool : ItemKind → OutputValues → Option Tool → List PathFault
faults_of_tool kind n tool = faults_of_outputs n tool ++ faults_if_shared kind n tool

abbrev pub faults_of_sources : Around → Item → OutputValues → List PathFault
faults_of_sources c i n = flat_map (faults_for_source c i n) (paths_of (field_at i.fields Sources))

unfoldable pub faults_with : Around → Item → Option Tool → Output → List PathFault
faults_with c i tool o =
    faults_of_directory c i tool o ++ (faults_of_sources c i (values_for c i o) ++ faults_of_tool i.kind (values_for c i o) tool)

-- the faults of all texts of its toolchain's tools that an item uses
abbrev pub faults_of_compiled : Around → Item → List PathFault
faults_of_compiled c i = faults_with c i (tool_where c (own_tool i.kind)) (output_of c i (tool_where c (own_tool i.kind)))

unfoldable pub faults_used : Around → Item → List PathFault
faults_used c i = if is_compiled i.kind then faults_of_compiled c i else []

-- the code that is told: that of the least of these faults
unfoldable pub wrong_text : Around → Item → Option Code
wrong_text c i = option_map path_code (least (faults_used c i))
