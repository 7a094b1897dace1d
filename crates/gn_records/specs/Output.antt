-- How the output of a compiled target is called, and what the target gives to the texts of tools.
use Rattle.std.specs.Prelude.{ℕ, List, [], ◌∷◌, Bool, true, Option, None, Some, Result, Ok, Err, map, option_and_then}
use Rattle.gn_paths.specs.declared.error.PathFault.{PathFault}
use Rattle.gn_paths.specs.Directory.{obj_directory_of, gen_directory_of}
use Rattle.gn_paths.specs.Resolve.{path_meant}
use Rattle.gn_rows.specs.declared.kinds.ItemKind.{ItemKind}
use Rattle.gn_rows.specs.declared.kinds.ItemKind.TheVariants as kinds
use Rattle.gn_rows.specs.declared.kinds.ToolName.{ToolName}
use Rattle.gn_rows.specs.declared.kinds.ToolName.TheVariants as tools
use Rattle.gn_rows.specs.declared.variable.Variable.{Variable}
use Rattle.gn_rows.specs.declared.variable.Variable.TheVariants as variables
use Rattle.gn_rows.specs.Names.{tool_name}
use Rattle.gn_substs.specs.declared.positions.Position.{Position}
use Rattle.gn_substs.specs.declared.positions.Position.TheVariants.{ToolDefaultOutputDir}
use Rattle.gn_substs.specs.declared.subst.Subst.{Subst}
use Rattle.gn_substs.specs.Expansions.{expanded}
use Rattle.gn_substs.specs.Positions.{names_at}
use Rattle.gn_define.specs.Fields.{field_at, boolean_of, texts_of, paths_of, substs_of}
use Rattle.gn_items.specs.declared.item.Item.{Item}
use Rattle.gn_items.specs.declared.tool.Tool.{Tool}
use Rattle.gn_items.specs.Tools.{tool_at}
use Rattle.gn_writing.specs.Outputs.{OutputValues, name_text}
use Rattle.gn_writing.specs.TargetNames.{output_name, output_extension}
use Rattle.gn_records.specs.declared.output.Output.{Output}
use Rattle.gn_records.specs.declared.output.OwnDirectories.{OwnDirectories}
use Rattle.gn_records.specs.Around.{Around}
use Rattle.gn_records.specs.Actions.{first_of}
use Rattle.gn_records.specs.Flags.{texts_at, first_or, text_of_tool}
use Rattle.gn_records.specs.Outputs.{for_none}

-- the tool of a kind that makes its output; the others have none
abbrev pub own_tool : ItemKind → Option ToolName
own_tool kinds.StaticLibrary = Some tools.Alink
own_tool kinds.Executable = Some tools.Link
own_tool kinds.SharedLibrary = Some tools.Solink
own_tool kinds.LoadableModule = Some tools.SolinkModule
own_tool _ = None

abbrev pub tool_where : Around → Option ToolName → Option Tool
tool_where c None = None
tool_where c (Some tool) = tool_at (tool_name tool) c.tools

-- the prefix of the tool, unless the target overrides it
abbrev pub prefix_unless : Option Bool → List ℕ → List ℕ
prefix_unless (Some true) prefix = []
prefix_unless _ prefix = prefix

abbrev pub prefix_of : Item → Option Tool → List ℕ
prefix_of i tool = prefix_unless (boolean_of (field_at i.fields variables.OutputPrefixOverride)) (text_of_tool variables.OutputPrefix tool)

-- the name: what the target says, or else its own, behind the prefix
abbrev pub name_of_output : Item → Option Tool → List ℕ
name_of_output i tool = output_name (prefix_of i tool) (first_or i.label.name (texts_at variables.OutputName i.fields))

-- the extension: the target's, or else the tool's
abbrev pub extension_of_output : Item → Option Tool → List ℕ
extension_of_output i tool =
    output_extension (text_of_tool variables.DefaultOutputExtension tool) (first_of (texts_at variables.OutputExtension i.fields))

-- the obj and the gen directory of the target's directory
abbrev pub own_directories : Around → Item → OwnDirectories
own_directories c i = record { objects = obj_directory_of c.out i.label.dir; generated = gen_directory_of c.out i.label.dir }

-- what a target with an output of this name and extension in this directory gives to the texts of tools
abbrev pub values_with : Around → Item → OwnDirectories → (name extension : List ℕ) → Option (List ℕ) → OutputValues
values_with c i d name extension directory = record {
  build = c.build;
  output_name = name;
  output_extension = extension;
  label_name = i.label.name;
  output_dir = directory;
  root_out_dir = c.out;
  root_gen_dir = c.generated;
  target_out_dir = d.objects;
  target_gen_dir = d.generated;
}

-- what is given at a position of a tool: that of the target, and what is given for a source
abbrev pub tool_given : Position → OutputValues → Position × List (List ℕ) → Position × List (List ℕ)
tool_given position n given = (position, map (name_text position n given) (names_at position))

-- a path that is meant
abbrev pub path_if : Result (List ℕ) PathFault → Option (List ℕ)
path_if (Ok path) = Some path
path_if (Err fault) = None

-- the directory that the first of a tool's texts stands for, and else the root of the toolchain's outputs
abbrev pub default_directory : OutputValues → List Subst → Option (List ℕ)
default_directory n [] = Some n.root_out_dir
default_directory n (text ∷ more) = path_if (path_meant n.build (expanded (tool_given ToolDefaultOutputDir n for_none) text))

-- the texts of a variable of a tool; none where there is no tool
abbrev pub substs_of_tool : Variable → Option Tool → List Subst
substs_of_tool v None = []
substs_of_tool v (Some t) = substs_of (field_at t.fields v)

-- the directory: the target's, or else the tool's
abbrev pub directory_or : List (List ℕ) → Option (List ℕ) → Option (List ℕ)
directory_or [] other = other
directory_or (path ∷ more) other = Some path

abbrev pub directory_of_output : Around → Item → Option Tool → OwnDirectories → (name extension : List ℕ) → Option (List ℕ)
directory_of_output c i tool d name extension =
    directory_or (paths_of (field_at i.fields variables.OutputDir)) (default_directory (values_with c i d name extension None) (substs_of_tool variables.DefaultOutputDir tool))

-- the output of a target whose kind has this tool
abbrev pub output_of : Around → Item → Option Tool → Output
output_of c i tool = record {
  name = name_of_output i tool;
  extension = extension_of_output i tool;
  directory = directory_of_output c i tool (own_directories c i) (name_of_output i tool) (extension_of_output i tool);
  around = own_directories c i;
}

-- what a target with this output gives to the texts of tools
abbrev pub values_for : Around → Item → Output → OutputValues
values_for c i o = values_with c i o.around o.name o.extension o.directory
