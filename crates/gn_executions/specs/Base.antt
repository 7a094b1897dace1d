-- What an evaluation sees besides what it asks.
use Rattle.std.specs.Prelude.{Bool, ℕ, List, [], ◌∷◌, ◌++◌, Option, Some, None, refl, codes}
use Rattle.std.specs.Coded.{Coded, code_by, coded×, coded_list, coded_option}
use Rattle.gn_values.specs.Tables.{Table, with_names, with_new_names}
use Rattle.gn_values.specs.Val.{Val}
use Rattle.gn_definitions.specs.Imported.{ScopeState, MadeBy, ImportState}
use Rattle.gn_definitions.specs.ImportedCode.{scope_code, made_code}
use Rattle.gn_faults.specs.declared.file_kind.FileKind.{FileKind}
use Rattle.gn_faults.specs.declared.stage.Stage.TheVariants.{Loading}
use Rattle.gn_paths.specs.Directory.{directory_of}
use Rattle.gn_environment.specs.declared.context.Context.{Context}
use Rattle.gn_environment.specs.declared.context.OpenBlock.TheVariants.{Nothing}
use Rattle.gn_environment.specs.Codes.{text_code, context_code}
use Rattle.gn_environment.specs.Environment.{Setting, Environment, new_environment}
use Rattle.gn_executions.specs.declared.host.HostNames.{HostNames}
use Rattle.gn_executions.specs.BuiltIn.{built_in_scope}

pub record BaseState : Type 0 where
  -- what never changes in the evaluations under its toolchain
  pub context : Context
  -- what a read searches behind the scopes of the file, in order: what the finished build configuration has left stands there
  pub beneath : List ScopeState
  -- the definitions of the templates that stand there
  pub definitions : MadeBy
  -- the host, if the built-in variables stand beneath all that
  pub host : Option HostNames
  -- the path of the build configuration, and the source tree in which files are looked for that the source root lacks
  pub configuration : List ℕ
  pub secondary : Option (List ℕ)

abbrev pub host_code : Coded HostNames
host_code = code_by (List ℕ × List ℕ) (coded× text_code text_code) (λ h. (h.os, h.cpu)) (λ p. record { os = p.0; cpu = p.1 }) (λ _. refl)

abbrev pub base_code : Coded BaseState
base_code =
    code_by ((Context × (List ScopeState × MadeBy)) × (Option HostNames × (List ℕ × Option (List ℕ)))) (coded× (coded× context_code (coded× (coded_list scope_code) made_code)) (coded× (coded_option host_code) (coded× text_code (coded_option text_code)))) (λ b. ((b.context, (b.beneath, b.definitions)), (b.host, (b.configuration, b.secondary)))) (λ p. record { context = p.0.0; beneath = p.0.1.0; definitions = p.0.1.1; host = p.1.0; configuration = p.1.1.0; secondary = p.1.1.1 }) (λ _. refl)

-- where a file is executed over a base: in its own directory, outside all blocks
abbrev pub setting_of : BaseState → FileKind → List ℕ → Setting
setting_of base kind path = record { context = base.context; kind = kind; file = path; directory = directory_of path; inside = Nothing }

-- the built-in variables of a file of this directory, where the host is known
abbrev pub built_in_beneath : Option HostNames → Context → List ℕ → List ScopeState
built_in_beneath None context directory = []
built_in_beneath (Some host) context directory = built_in_scope host context directory ∷ []

-- all that stands beneath a file of this directory
abbrev pub beneath_in : BaseState → List ℕ → List ScopeState
beneath_in base directory = base.beneath ++ built_in_beneath base.host base.context directory

-- where the execution of a file begins over a base: one scope, in which nothing is set, over what stands beneath it
abbrev pub begins_over : BaseState → FileKind → List ℕ → List ℕ → Bool → Environment
begins_over base kind path execution checked =
    new_environment (setting_of base kind path) execution checked (beneath_in base (directory_of path)) (with_new_names base.definitions [])

-- the base of the build configuration and of the files that it imports: nothing stands beneath them but the built-in variables
abbrev pub setup_base : Context → HostNames → List ℕ → Option (List ℕ) → BaseState
setup_base context host configuration secondary =
    record { context = context; beneath = []; definitions = []; host = Some host; configuration = configuration; secondary = secondary }

-- the base of the files under a toolchain, once its build configuration has left this: they have another context, in which the toolchain is known
abbrev pub finished_base : BaseState → Context → ImportState → BaseState
finished_base base context left = record base { context = context; beneath = left.scope ∷ []; definitions = with_new_names left.definitions [] }

-- the context of the files under the default toolchain, once its text is known
abbrev pub default_context : List ℕ → Context → Context
default_context default context = record context { toolchain = default; default_toolchain = default }

-- that of the files and of the build configuration under another toolchain, which gives build arguments values of its own
abbrev pub other_context : List ℕ → Table Val → Context → Context
other_context toolchain arguments context = record context { toolchain = toolchain; fault_toolchain = toolchain; overrides = with_names arguments context.overrides }

-- the base of a build that has no build configuration: its one toolchain is the empty text, no argument is given, and nothing stands beneath, not even
-- the built-in variables. No command names its build directory or its source root yet: calls that depend on them see the source root and the empty text
abbrev pub plain_base : BaseState
plain_base = record {
  context = record {
    stage = Loading;
    toolchain = [];
    fault_toolchain = [];
    default_toolchain = [];
    build_directory = codes "//";
    source_root = [];
    overrides = [];
  };
  beneath = [];
  definitions = [];
  host = None;
  configuration = codes "//";
  secondary = None;
}
