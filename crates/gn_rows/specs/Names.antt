-- The names of variables, of kinds of items and of tools.
use Rattle.std.specs.Prelude.{ℕ, Bool, true, false, List, [], ◌∷◌, Option, None, Some, codes, if◌then◌else◌}
use Rattle.std.specs.Str.{bytes_eq}
use Rattle.gn_rows.specs.declared.variable.Variable.{Variable}
use Rattle.gn_rows.specs.declared.variable.Variable.TheVariants as variables
use Rattle.gn_rows.specs.declared.kinds.ItemKind.{ItemKind}
use Rattle.gn_rows.specs.declared.kinds.ItemKind.TheVariants as kinds
use Rattle.gn_rows.specs.declared.kinds.ToolName.{ToolName}
use Rattle.gn_rows.specs.declared.kinds.ToolName.TheVariants as tools
use Rattle.gn_rows.specs.declared.kinds.TheConstants.{KINDS, TOOLS}

-- the name of a variable
abbrev pub variable_name : Variable → List ℕ
variable_name variables.Testonly = codes "testonly"
variable_name variables.CheckIncludes = codes "check_includes"
variable_name variables.OutputPrefixOverride = codes "output_prefix_override"
variable_name variables.Visibility = codes "visibility"
variable_name variables.PublicDeps = codes "public_deps"
variable_name variables.Deps = codes "deps"
variable_name variables.DataDeps = codes "data_deps"
variable_name variables.Configs = codes "configs"
variable_name variables.PublicConfigs = codes "public_configs"
variable_name variables.AllDependentConfigs = codes "all_dependent_configs"
variable_name variables.AllowCircularIncludesFrom = codes "allow_circular_includes_from"
variable_name variables.AssertNoDeps = codes "assert_no_deps"
variable_name variables.Sources = codes "sources"
variable_name variables.Public = codes "public"
variable_name variables.Inputs = codes "inputs"
variable_name variables.Data = codes "data"
variable_name variables.IncludeDirs = codes "include_dirs"
variable_name variables.LibDirs = codes "lib_dirs"
variable_name variables.Defines = codes "defines"
variable_name variables.Asmflags = codes "asmflags"
variable_name variables.Cflags = codes "cflags"
variable_name variables.CflagsC = codes "cflags_c"
variable_name variables.CflagsCc = codes "cflags_cc"
variable_name variables.Ldflags = codes "ldflags"
variable_name variables.Libs = codes "libs"
variable_name variables.Args = codes "args"
variable_name variables.ResponseFileContents = codes "response_file_contents"
variable_name variables.OutputName = codes "output_name"
variable_name variables.OutputExtension = codes "output_extension"
variable_name variables.OutputDir = codes "output_dir"
variable_name variables.Script = codes "script"
variable_name variables.Outputs = codes "outputs"
variable_name variables.Depfile = codes "depfile"
variable_name variables.Pool = codes "pool"
variable_name variables.Friend = codes "friend"
variable_name variables.WriteRuntimeDeps = codes "write_runtime_deps"
variable_name variables.Arflags = codes "arflags"
variable_name variables.CflagsObjc = codes "cflags_objc"
variable_name variables.CflagsObjcc = codes "cflags_objcc"
variable_name variables.Frameworks = codes "frameworks"
variable_name variables.Metadata = codes "metadata"
variable_name variables.Depth = codes "depth"
variable_name variables.ToolchainArgs = codes "toolchain_args"
variable_name variables.Command = codes "command"
variable_name variables.Depsformat = codes "depsformat"
variable_name variables.Description = codes "description"
variable_name variables.Rspfile = codes "rspfile"
variable_name variables.RspfileContent = codes "rspfile_content"
variable_name variables.LibSwitch = codes "lib_switch"
variable_name variables.LibDirSwitch = codes "lib_dir_switch"
variable_name variables.DefaultOutputExtension = codes "default_output_extension"
variable_name variables.DefaultOutputDir = codes "default_output_dir"
variable_name variables.OutputPrefix = codes "output_prefix"
variable_name variables.LinkOutput = codes "link_output"
variable_name variables.DependOutput = codes "depend_output"
variable_name variables.Restat = codes "restat"
variable_name variables.RuntimeOutputs = codes "runtime_outputs"
variable_name variables.PartialOutputs = codes "partial_outputs"

-- the name of the call that defines an item of a kind
abbrev pub kind_name : ItemKind → List ℕ
kind_name kinds.Group = codes "group"
kind_name kinds.Executable = codes "executable"
kind_name kinds.StaticLibrary = codes "static_library"
kind_name kinds.SharedLibrary = codes "shared_library"
kind_name kinds.SourceSet = codes "source_set"
kind_name kinds.LoadableModule = codes "loadable_module"
kind_name kinds.Action = codes "action"
kind_name kinds.ActionForeach = codes "action_foreach"
kind_name kinds.Copy = codes "copy"
kind_name kinds.Config = codes "config"
kind_name kinds.Pool = codes "pool"
kind_name kinds.Toolchain = codes "toolchain"
kind_name kinds.Tool = codes "tool"

-- whether it is a kind of target
abbrev pub is_target : ItemKind → Bool
is_target kinds.Config = false
is_target kinds.Pool = false
is_target kinds.Toolchain = false
is_target kinds.Tool = false
is_target _ = true

-- the first of these kinds that has the name
abbrev pub first_kind_named : List ItemKind → List ℕ → Option ItemKind
first_kind_named [] name = None
first_kind_named (k ∷ ks) name = if bytes_eq (kind_name k) name then Some k else first_kind_named ks name

-- the kind of the item that a call of a name defines
abbrev pub kind_named : List ℕ → Option ItemKind
kind_named name = first_kind_named KINDS name

-- the name of a tool
abbrev pub tool_name : ToolName → List ℕ
tool_name tools.Alink = codes "alink"
tool_name tools.Asm = codes "asm"
tool_name tools.Cc = codes "cc"
tool_name tools.Copy = codes "copy"
tool_name tools.Cxx = codes "cxx"
tool_name tools.Link = codes "link"
tool_name tools.Solink = codes "solink"
tool_name tools.SolinkModule = codes "solink_module"
tool_name tools.Stamp = codes "stamp"

-- the first of these tools that has the name
abbrev pub first_named : List ToolName → List ℕ → Option ToolName
first_named [] name = None
first_named (t ∷ ts) name = if bytes_eq (tool_name t) name then Some t else first_named ts name

-- the tool of a name
abbrev pub tool_named : List ℕ → Option ToolName
tool_named name = first_named TOOLS name
