-- What the built-in variables of the files under a toolchain have in common.
use Rattle.std.specs.Prelude.{◌≡◌, ℕ, List, [], ◌∷◌, ◌++◌, Option, Some, None, map, codes}
use Rattle.gn_values.specs.Val.{Val}
use Rattle.gn_values.specs.Tables.{Table, with_names}
use Rattle.gn_definitions.specs.Imported.{ScopeState}
use Rattle.gn_environment.specs.declared.context.Context.{Context}
use Rattle.gn_executions.specs.declared.host.HostNames.{HostNames}
use Rattle.gn_executions.specs.BuiltIn.{output_directory, system_texts, toolchain_texts, root_texts, target_texts, overridden, as_value}
use Rattle.gn_evaluation_base.specs.declared.built_in.BuiltIn.{BuiltIn}

-- the names whose values depend on the directory of the file: the empty text until it is known
abbrev pub open_texts : Table (List ℕ)
open_texts = (codes "target_out_dir", []) ∷ (codes "target_gen_dir", []) ∷ []

-- all thirteen variables, as far as they are known of a toolchain with this output directory
abbrev pub toolchain_variables : HostNames → Context → List ℕ → Table Val
toolchain_variables host context out =
    map (overridden context.overrides) (system_texts host) ++ map as_value (toolchain_texts context ++ root_texts context out ++ open_texts)

-- what all of them have in common: these, in the order of their names, and what the others are made of
abbrev pub built_in_under : HostNames → Context → BuiltIn
built_in_under host context = record {
  host = host;
  out = output_directory context;
  variables = with_names (toolchain_variables host context (output_directory context)) [];
}

-- the scope in which they stand, with the values of a directory
abbrev pub scope_in : BuiltIn → List ℕ → ScopeState
scope_in b directory =
    record { variables = with_names (map as_value (target_texts b.out directory)) b.variables; templates = []; defaults = [] }

-- the host, if they stand beneath the files
abbrev pub host_of : Option BuiltIn → Option HostNames
host_of None = None
host_of (Some b) = Some b.host

-- they are those of this context
abbrev pub IsUnder : Context → Option BuiltIn → Type 0
IsUnder context None = Unit {0}
IsUnder context (Some b) = b ≡ built_in_under b.host context
