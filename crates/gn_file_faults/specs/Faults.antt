-- The faults of the files of a build.
use Rattle.std.specs.Prelude.{ℕ, Bool, List, ◌++◌, Option, option_map, map}
use Rattle.gn_faults.specs.declared.fault.Fault.{Fault}
use Rattle.gn_items.specs.declared.declaration.Declaration.{Declaration}
use Rattle.gn_items.specs.declared.default_toolchain.DefaultToolchain.{DefaultToolchain}
use Rattle.gn_file_faults.specs.declared.facts.FileFacts.{FileFacts}
use Rattle.gn_file_faults.specs.Least.{least_of}
use Rattle.gn_file_faults.specs.Arguments.{argument_faults}
use Rattle.gn_file_faults.specs.Defaults.{default_faults}
use Rattle.gn_file_faults.specs.Writes.{Execution, execution_of, write_faults}
use Rattle.gn_file_faults.specs.Imports.{import_faults}

-- What a build says of its files: the build arguments that are declared, the default toolchain as it is named and whether its label is that of a toolchain,
-- the files that executions write, in the order of the build, what generated targets make, as it is seen from the build directory, that directory, and the
-- files that are loaded and those that are imported.
pub record Facts : Type 0 where
  pub declarations : List Declaration
  pub default : Option DefaultToolchain
  pub is_toolchain : Bool
  pub executions : List Execution
  pub made : List (List ℕ)
  pub build : List ℕ
  pub loaded : List (List ℕ)
  pub imported : List (List ℕ)

abbrev pub facts_of : FileFacts → Facts
facts_of facts = record {
  declarations = map (λ d. d.now) facts.declarations.now;
  default = option_map (λ d. d.now) facts.default;
  is_toolchain = facts.is_toolchain;
  executions = map execution_of facts.executions.now;
  made = facts.made.now.keys;
  build = facts.build.now;
  loaded = map (λ p. p.now) facts.loaded.now;
  imported = map (λ p. p.now) facts.imported.now;
}

-- the faults of files, kind by kind: arguments that are declared twice, a default toolchain that isn't defined, files that are written twice or made by a
-- target, and imported build files
abbrev pub file_faults : Facts → List Fault
file_faults facts =
    argument_faults facts.declarations
    ++ (default_faults facts.default facts.is_toolchain
    ++ (write_faults facts.made facts.build facts.executions
    ++ import_faults facts.loaded facts.imported))

-- the least of them, if there is one
unfoldable pub file_fault : Facts → Option Fault
file_fault facts = least_of (file_faults facts)
