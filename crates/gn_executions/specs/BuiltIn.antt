-- The built-in variables: what every file sees beneath all else.
use Rattle.std.specs.Prelude.{ℕ, List, [], ◌∷◌, ◌++◌, map, codes}
use Rattle.gn_paths.specs.Directory.{obj_directory_of, gen_directory_of}
use Rattle.gn_values.specs.Val.{Val, vstr}
use Rattle.gn_values.specs.Tables.{Table, with_names}
use Rattle.gn_definitions.specs.Imported.{ScopeState}
use Rattle.gn_environment.specs.declared.context.Context.{Context}
use Rattle.gn_environment.specs.Declaring.{taken}
use Rattle.gn_calls_path.specs.Directories.{out_directory}
use Rattle.gn_executions.specs.declared.host.HostNames.{HostNames}

-- the output directory of the toolchain
abbrev pub output_directory : Context → List ℕ
output_directory context = out_directory context.build_directory context.default_toolchain context.toolchain

-- the names that a build argument may override: those of the host,
abbrev pub host_texts : HostNames → Table (List ℕ)
host_texts host = (codes "host_os", host.os) ∷ (codes "host_cpu", host.cpu) ∷ []

-- and those of what is current and of what is built for, which are empty
abbrev pub targeted_texts : Table (List ℕ)
targeted_texts = (codes "current_os", []) ∷ (codes "current_cpu", []) ∷ (codes "target_os", []) ∷ (codes "target_cpu", []) ∷ []

abbrev pub system_texts : HostNames → Table (List ℕ)
system_texts host = host_texts host ++ targeted_texts

-- what nothing overrides: the toolchains,
abbrev pub toolchain_texts : Context → Table (List ℕ)
toolchain_texts context = (codes "current_toolchain", context.toolchain) ∷ (codes "default_toolchain", context.default_toolchain) ∷ []

-- the directories of the build, of a toolchain with this output directory,
abbrev pub root_texts : Context → List ℕ → Table (List ℕ)
root_texts context out =
    (codes "root_build_dir", context.build_directory) ∷ (codes "root_out_dir", out) ∷ (codes "root_gen_dir", gen_directory_of out (codes "//")) ∷ []

-- and those that stand for the directory of the file
abbrev pub target_texts : List ℕ → List ℕ → Table (List ℕ)
target_texts out directory = (codes "target_out_dir", obj_directory_of out directory) ∷ (codes "target_gen_dir", gen_directory_of out directory) ∷ []

abbrev pub place_texts : Context → List ℕ → Table (List ℕ)
place_texts context directory =
    toolchain_texts context ++ root_texts context (output_directory context) ++ target_texts (output_directory context) directory

-- a text as the value that its name takes where a build argument may override it, and where none may
abbrev pub overridden : Table Val → List ℕ × List ℕ → List ℕ × Val
overridden overrides t = (t.0, taken overrides t.0 (vstr t.1))

abbrev pub as_value : List ℕ × List ℕ → List ℕ × Val
as_value t = (t.0, vstr t.1)

-- all thirteen variables of a file that stands in a directory
unfoldable pub built_in_variables : HostNames → Context → List ℕ → Table Val
built_in_variables host context directory =
    map (overridden context.overrides) (system_texts host) ++ map as_value (place_texts context directory)

-- the scope in which they stand, in the order of their names
abbrev pub built_in_scope : HostNames → Context → List ℕ → ScopeState
built_in_scope host context directory = record { variables = with_names (built_in_variables host context directory) []; templates = []; defaults = [] }
