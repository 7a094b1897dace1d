-- `set_default_toolchain`.
use Rattle.std.specs.Prelude.{List, [], ◌∷◌, Option, None, Result, Ok, Err}
use Rattle.gn_tree.specs.declared.position.Position.{Position}
use Rattle.gn_tree.specs.declared.tree.Call.{Call}
use Rattle.gn_values.specs.Val.{Val, vstr}
use Rattle.gn_labels.specs.declared.error.LabelFault.{LabelFault}
use Rattle.gn_labels.specs.declared.error.LabelFault.TheVariants.{BadLabel, Path}
use Rattle.gn_labels.specs.declared.label.Label.{Label}
use Rattle.gn_labels.specs.Reading.{label_read}
use Rattle.gn_faults.specs.declared.code.Code.{Code}
use Rattle.gn_faults.specs.declared.code.Code.TheVariants as code
use Rattle.gn_items.specs.declared.default_toolchain.DefaultToolchain.{DefaultToolchain}
use Rattle.gn_items.specs.Effects.{with_default_toolchain}
use Rattle.gn_environment.specs.Environment.{Environment}
use Rattle.gn_meaning.specs.Steps.{Steps, ends}
use Rattle.gn_meaning.specs.Words.{fails_at}
use Rattle.gn_meaning.specs.Arguments.{at_argument, refused_runs}
use Rattle.gn_meaning.specs.Imports.{place_here, path_code}

-- the code of a text that means no label
abbrev pub label_code : LabelFault → Code
label_code BadLabel = code.BadLabel
label_code (Path fault) = path_code fault

-- the label that a call at this position names, as the default toolchain: a toolchain that the label has itself is dropped
abbrev pub default_named : Label → Position → Environment → DefaultToolchain
default_named label position env = record { label = record { dir = label.dir; name = label.name }; place = place_here position env }

abbrev pub label_named_runs : Result Label LabelFault → Position → Position → Steps (Option Val)
label_named_runs (Ok label) at position env out = ends None env (with_default_toolchain (default_named label position env) out)
label_named_runs (Err fault) at position env out = fails_at (label_code fault) at [] env out

-- the label is read where the call stands: from the current directory, under the current toolchain
unfoldable pub toolchain_set_runs : Val → Position → Position → Steps (Option Val)
toolchain_set_runs (vstr text) at position env out =
    label_named_runs (label_read env.setting.directory env.setting.context.toolchain text) at position env out
toolchain_set_runs _ at position env out = fails_at code.BadTypes at [] env out

-- `set_default_toolchain(label)`
unfoldable pub toolchain_setting_runs : List Val → Call → Steps (Option Val)
toolchain_setting_runs (v ∷ []) call env out = toolchain_set_runs v (at_argument call 0) call.position env out
toolchain_setting_runs _ call env out = refused_runs call env out
