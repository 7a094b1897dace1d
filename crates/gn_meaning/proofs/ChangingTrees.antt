-- What the calls that change the environment do are trees of questions.
use Rattle.std.proofs.Common.{ℕ, Bool, List, [], ◌∷◌, Option, Some, None, Result, Ok, Err}
use Rattle.gn_tree.specs.declared.position.Position.{Position}
use Rattle.gn_tree.specs.declared.tree.Call.{Call}
use Rattle.gn_tree.specs.Tree.{BlockTree}
use Rattle.gn_values.specs.Val.{Val, vstr}
use Rattle.gn_labels.specs.declared.error.LabelFault.{LabelFault}
use Rattle.gn_labels.specs.declared.label.Label.{Label}
use Rattle.gn_labels.specs.Reading.{label_read}
use Rattle.gn_items.specs.Effects.{with_default_toolchain}
use Rattle.gn_meaning.specs.Arguments.{at_argument}
use Rattle.gn_meaning.specs.Selections.{FirstArgument}
use Rattle.gn_meaning.specs.Toolchains.{default_named, label_named_runs, toolchain_set_runs, toolchain_setting_runs}
use Rattle.gn_meaning.specs.ChangingCalls.{source_and_rest, forwarding_runs, unneeded_runs, importing_runs, defining_runs, changed_runs}
use Rattle.gn_functions.specs.declared.function.Changing.{Changing}
use Rattle.gn_functions.specs.declared.function.Changing.TheVariants.{Import, Template, ForwardVariablesFrom, NotNeeded, SetDefaultToolchain}
use Rattle.gn_meaning.proofs.Steps.{AreQuiet, AreTrees, tree_fails, tree_ends}
use Rattle.gn_meaning.proofs.Imports.{imported_tree}
use Rattle.gn_meaning.proofs.Templates.{template_defined_tree}
use Rattle.gn_meaning.proofs.Selections.{forwarded_tree, unneeded_one_tree, unneeded_two_tree, unneeded_three_tree}

forwarding_tree : (given : Option (FirstArgument × List Val)) (call : Call) → AreQuiet (forwarding_runs given call)
unfolding forwarding_runs
forwarding_tree (Some (source, names ∷ [])) call env out = forwarded_tree source names None (at_argument call 0) (at_argument call 1) call.position call.name env out
forwarding_tree (Some (source, names ∷ except ∷ [])) call env out =
    forwarded_tree source names (Some (except, at_argument call 2)) (at_argument call 0) (at_argument call 1) call.position call.name env out
forwarding_tree given call env out = tree_fails _ out

unneeded_tree : (given : Option (FirstArgument × List Val)) (call : Call) → AreQuiet (unneeded_runs given call)
unfolding unneeded_runs
unneeded_tree (Some (source, [])) call env out = unneeded_one_tree source (at_argument call 0) call.position call.name env out
unneeded_tree (Some (source, v ∷ [])) call env out = unneeded_two_tree source v (at_argument call 0) (at_argument call 1) call.position call.name env out
unneeded_tree (Some (source, v ∷ u ∷ [])) call env out =
    unneeded_three_tree source v u (at_argument call 0) (at_argument call 1) (at_argument call 2) call.position call.name env out
unneeded_tree given call env out = tree_fails _ out

importing_tree : (vs : List Val) (call : Call) → AreTrees (λ a. importing_runs a vs call)
importing_tree (v ∷ []) call env out = imported_tree v (at_argument call 0) call.position env out
importing_tree vs call env out = tree_fails _ out

defining_tree : (vs : List Val) (block : Option BlockTree) (call : Call) (n : ℕ) → AreQuiet (defining_runs vs block call n)
unfolding defining_runs
defining_tree (v ∷ []) (Some block) call n env out = template_defined_tree v (at_argument call 0) call.position n block env out
defining_tree vs block call n env out = tree_fails _ out

label_named_tree : (r : Result Label LabelFault) (at p : Position) → AreQuiet (label_named_runs r at p)
unfolding with_default_toolchain
label_named_tree (Ok label) at p env out = tree_ends _ env (with_default_toolchain (default_named label p env) out)
label_named_tree (Err fault) at p env out = tree_fails _ out

toolchain_set_tree : (v : Val) (at p : Position) → AreQuiet (toolchain_set_runs v at p)
unfolding toolchain_set_runs
toolchain_set_tree (vstr text) at p env out = label_named_tree (label_read env.setting.directory env.setting.context.toolchain text) at p env out
toolchain_set_tree v at p env out = tree_fails _ out

toolchain_setting_tree : (vs : List Val) (call : Call) → AreQuiet (toolchain_setting_runs vs call)
unfolding toolchain_setting_runs
toolchain_setting_tree (v ∷ []) call env out = toolchain_set_tree v (at_argument call 0) call.position env out
toolchain_setting_tree vs call env out = tree_fails _ out

pub changed_tree : (f : Changing) (invoker : Bool) (vs : List Val) (call : Call) (n : ℕ) → AreTrees (λ a. changed_runs a f invoker vs call n)
unfolding changed_runs
changed_tree Import invoker vs call n env out = importing_tree vs call env out
changed_tree Template invoker vs call n env out = defining_tree vs call.block call n env out
changed_tree ForwardVariablesFrom invoker vs call n env out = forwarding_tree (source_and_rest invoker vs) call env out
changed_tree NotNeeded invoker vs call n env out = unneeded_tree (source_and_rest invoker vs) call env out
changed_tree SetDefaultToolchain invoker vs call n env out = toolchain_setting_tree vs call env out
