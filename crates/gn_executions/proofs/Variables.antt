-- The built-in variables.
use Rattle.std.proofs.Common.{if◌then◌else◌, refl, ◌∙◌, ap}
use Rattle.std.specs.Str.{bytes_eq}
use Rattle.gn_basics.proofs.Texts.{bytes_eq-itself}
use Rattle.gn_labels.specs.Toolchains.{toolchain_named}
use Rattle.gn_args.specs.BuiltIn.{built_in_names}
use Rattle.gn_calls_path.specs.Directories.{out_named, out_directory}
use Rattle.gn_executions.specs.BuiltIn.{built_in_variables}
use Rattle.gn_executions.specs.Laws.{VariablesHaveTheirNames, DefaultOutputIsTheBuildDirectory}

pub variables_have_their_names : VariablesHaveTheirNames
unfolding built_in_variables built_in_names
variables_have_their_names host context directory = refl

pub default_output : DefaultOutputIsTheBuildDirectory
unfolding out_directory
default_output context h =
    ap (λ b. if b then context.build_directory else out_named context.build_directory (toolchain_named context.toolchain))
    (ap (bytes_eq context.toolchain) h ∙ bytes_eq-itself context.toolchain)
