-- The calls that change the environment leave in order what they find in order, where the answers are so.
use Rattle.std.proofs.Common.{ℕ, Bool, List, [], ◌∷◌, Option, Some, None, Result, Ok, Err}
use Rattle.gn_tree.specs.declared.position.Position.{Position}
use Rattle.gn_values.specs.Limits.{scope_fits}
use Rattle.gn_values.specs.Val.{Val, vstr, vscope, entries_of}
use Rattle.gn_environment.specs.Environment.{Environment}
use Rattle.gn_environment.specs.Forwarding.{Origin, from_entries, from_invoker}
use Rattle.gn_environment.specs.Declaring.{names_brought, import_brought}
use Rattle.gn_environment.specs.Invoker.{forwards_outer_invoker, outer_invoker_entries}
use Rattle.gn_meaning.specs.Steps.{Steps, import_asked}
use Rattle.gn_meaning.specs.Selections.{FirstArgument, the_invoker, a_value, Selection, every_name, listed_names, other_text, no_names, strings_of, selection_of, excepting_runs, excepted_runs, selected_runs, forwarded_to, names_forwarded_runs, outer_invoker_runs, outer_invoker_forwarded_runs, invoker_forwarded_runs, listed_forwarded_runs, origin_forwarded_runs, forwarded_runs, unneeded_here_runs, unneeded_at_invoker_runs, unneeded_in_value_runs, unneeded_one_runs, unneeded_two_runs, unneeded_three_runs}
use Rattle.gn_paths.specs.declared.error.PathFault.{PathFault}
use Rattle.gn_paths.specs.declared.place.Place.{Place}
use Rattle.gn_paths.specs.Components.{is_system}
use Rattle.gn_paths.specs.Resolve.{path_meant}
use Rattle.gn_tree.specs.declared.tree.Call.{Call}
use Rattle.gn_tree.specs.Tree.{BlockTree}
use Rattle.gn_labels.specs.declared.error.LabelFault.{LabelFault}
use Rattle.gn_labels.specs.declared.label.Label.{Label}
use Rattle.gn_labels.specs.Reading.{label_read}
use Rattle.gn_items.specs.Effects.{Effects}
use Rattle.gn_runs.specs.Runs.{Content, has_bytes, is_absent, is_too_big, Answers}
use Rattle.gn_environment.specs.Templates.{has_template_here}
use Rattle.gn_orders.specs.InOrder.{AreAnswersInOrder}
use Rattle.gn_orders.proofs.Environments.{template_defined_keeps}
use Rattle.gn_orders.proofs.Callers.{names_read_here_keep, all_read_here_keeps, invoker_read_but_keeps, invoker_names_read_keep, outer_invoker_read_keeps, names_brought_keep, all_brought_keep, import_brought_keeps}
use Rattle.gn_meaning.specs.Arguments.{at_argument}
use Rattle.gn_meaning.specs.Imports.{merged_to, content_runs, path_runs, imported_runs}
use Rattle.gn_meaning.specs.Templates.{template_defined_runs}
use Rattle.gn_meaning.specs.Toolchains.{label_named_runs, toolchain_set_runs, toolchain_setting_runs}
use Rattle.gn_meaning.specs.ChangingCalls.{source_and_rest, forwarding_runs, unneeded_runs, importing_runs, defining_runs, changed_runs}
use Rattle.gn_functions.specs.declared.function.Changing.{Changing}
use Rattle.gn_functions.specs.declared.function.Changing.TheVariants.{Import, Template, ForwardVariablesFrom, NotNeeded, SetDefaultToolchain}
use Rattle.gn_orders.proofs.Ends.{IsKept, Leaves, Keep, keep_do, keep_ends, fails_so, so_if, keep_asks_content, keep_asks_import}

excepting_keeps : {A : Type 0} (names : Option (List (List ℕ))) (at : Position) (next : List (List ℕ) → Steps A) → ((except : List (List ℕ)) → Keep (next except)) → Keep (excepting_runs names at next)
excepting_keeps (Some names) at next t env out = t names env out
excepting_keeps None at next t env out = fails_so _ out

excepted_keeps : {A : Type 0} (last : Option (Val × Position)) (next : List (List ℕ) → Steps A) → ((except : List (List ℕ)) → Keep (next except)) → Keep (excepted_runs last next)
excepted_keeps None next t env out = t [] env out
excepted_keeps (Some last) next t env out = excepting_keeps (strings_of last.0) last.1 next t env out

selected_keeps : {A : Type 0} (selection : Selection) (last : Option (Val × Position)) (at p : Position) (name : List ℕ) (all : List (List ℕ) → Steps A) (some : List (List ℕ) → List (List ℕ) → Steps A) → ((except : List (List ℕ)) → Keep (all except)) → ((names except : List (List ℕ)) → Keep (some names except)) → Keep (selected_runs selection last at p name all some)
selected_keeps every_name last at p name all some t u env out = excepted_keeps last all t env out
selected_keeps (listed_names names) last at p name all some t u env out = excepted_keeps last (some names) (u names) env out
selected_keeps other_text last at p name all some t u env out = excepted_keeps last _ (λ except env1 out1. fails_so _ out1) env out
selected_keeps no_names last at p name all some t u env out = fails_so _ out

-- Forwarding

forwarded_to_keeps : (r : Result Environment (List ℕ)) (p : Position) (env : Environment) (out : Effects) → IsKept env r → Leaves env (forwarded_to r p env out)
forwarded_to_keeps (Ok after) p env out h = keep_ends _ after out h
forwarded_to_keeps (Err name) p env out h = fails_so _ out

names_keep : (origin : Origin) (names except : List (List ℕ)) (p : Position) → Keep (names_forwarded_runs origin names except p)
names_keep origin names except p env out =
    forwarded_to_keeps (names_brought p origin names except env) p env out (names_brought_keep p origin names except env)

outer_invoker_keeps : (p : Position) → Keep (outer_invoker_runs p)
unfolding outer_invoker_runs
outer_invoker_keeps p env out =
    so_if (scope_fits (outer_invoker_entries env)) _ _ (keep_ends _ _ out (outer_invoker_read_keeps env)) (fails_so _ out)

outer_forwarded_keeps : (names except : List (List ℕ)) (p : Position) → Keep (outer_invoker_forwarded_runs names except p)
outer_forwarded_keeps names except p env out =
    keep_do _ _ (outer_invoker_keeps p env out) (λ outer env1 out1. names_keep (from_invoker (Some outer)) names except p env1 out1)

invoker_forwarded_keeps : (names except : List (List ℕ)) (p : Position) → Keep (invoker_forwarded_runs names except p)
invoker_forwarded_keeps names except p env out =
    so_if (forwards_outer_invoker names except env) _ _ (outer_forwarded_keeps names except p env out) (names_keep (from_invoker None) names except p env out)

listed_forwarded_keeps : (origin : Origin) (names except : List (List ℕ)) (p : Position) → Keep (listed_forwarded_runs origin names except p)
listed_forwarded_keeps (from_entries entries) names except p env out = names_keep (from_entries entries) names except p env out
listed_forwarded_keeps (from_invoker outer) names except p env out = invoker_forwarded_keeps names except p env out

origin_forwarded_keeps : (origin : Origin) (names : Val) (last : Option (Val × Position)) (at p : Position) (name : List ℕ) → Keep (origin_forwarded_runs origin names last at p name)
origin_forwarded_keeps origin names last at p name env out =
    selected_keeps (selection_of names) last at p name _ _ (λ except env1 out1. keep_ends _ _ out1 (all_brought_keep p origin except env1))
    (λ listed except env1 out1. listed_forwarded_keeps origin listed except p env1 out1) env out

pub forwarded_keeps : (source : FirstArgument) (names : Val) (last : Option (Val × Position)) (source_at at p : Position) (name : List ℕ) → Keep (forwarded_runs source names last source_at at p name)
unfolding forwarded_runs
forwarded_keeps the_invoker names last source_at at p name env out = origin_forwarded_keeps (from_invoker None) names last at p name env out
forwarded_keeps (a_value (vscope bs)) names last source_at at p name env out = origin_forwarded_keeps (from_entries (entries_of bs)) names last at p name env out
forwarded_keeps (a_value v) names last source_at at p name env out = fails_so _ out

-- `not_needed`

here_keeps : (names : Val) (last : Option (Val × Position)) (at p : Position) (name : List ℕ) → Keep (unneeded_here_runs names last at p name)
here_keeps names last at p name env out =
    selected_keeps (selection_of names) last at p name _ _ (λ except env1 out1. keep_ends _ _ out1 (all_read_here_keeps except env1)) (λ listed except env1 out1. keep_ends _ _ out1 (names_read_here_keep listed except env1)) env out

at_invoker_keeps : (names : Val) (last : Option (Val × Position)) (at p : Position) (name : List ℕ) → Keep (unneeded_at_invoker_runs names last at p name)
at_invoker_keeps names last at p name env out =
    selected_keeps (selection_of names) last at p name _ _ (λ except env1 out1. keep_ends _ _ out1 (invoker_read_but_keeps except env1)) (λ listed except env1 out1. keep_ends _ _ out1 (invoker_names_read_keep listed except env1)) env out

in_value_keeps : (names : Val) (last : Option (Val × Position)) (at p : Position) (name : List ℕ) → Keep (unneeded_in_value_runs names last at p name)
in_value_keeps names last at p name env out =
    selected_keeps (selection_of names) last at p name _ _ (λ except env1 out1. keep_ends _ _ out1 (λ o. o)) (λ listed except env1 out1. keep_ends _ _ out1 (λ o. o)) env out

pub unneeded_one_keeps : (source : FirstArgument) (at p : Position) (name : List ℕ) → Keep (unneeded_one_runs source at p name)
unfolding unneeded_one_runs
unneeded_one_keeps the_invoker at p name env out = fails_so _ out
unneeded_one_keeps (a_value (vscope bs)) at p name env out = fails_so _ out
unneeded_one_keeps (a_value v) at p name env out = here_keeps v None at p name env out

pub unneeded_two_keeps : (source : FirstArgument) (second : Val) (first_at at p : Position) (name : List ℕ) → Keep (unneeded_two_runs source second first_at at p name)
unfolding unneeded_two_runs
unneeded_two_keeps the_invoker second first_at at p name env out = at_invoker_keeps second None at p name env out
unneeded_two_keeps (a_value (vscope bs)) second first_at at p name env out = in_value_keeps second None at p name env out
unneeded_two_keeps (a_value v) second first_at at p name env out = here_keeps v (Some (second, at)) first_at p name env out

pub unneeded_three_keeps : (source : FirstArgument) (names last : Val) (first_at at last_at p : Position) (name : List ℕ) → Keep (unneeded_three_runs source names last first_at at last_at p name)
unfolding unneeded_three_runs
unneeded_three_keeps the_invoker names last first_at at last_at p name env out = at_invoker_keeps names (Some (last, last_at)) at p name env out
unneeded_three_keeps (a_value (vscope bs)) names last first_at at last_at p name env out = in_value_keeps names (Some (last, last_at)) at p name env out
unneeded_three_keeps (a_value v) names last first_at at last_at p name env out = fails_so _ out

-- Imports

merged_to_keeps : (r : Result Environment (List ℕ)) (p : Position) (env : Environment) (out : Effects) → IsKept env r → Leaves env (merged_to r p env out)
merged_to_keeps (Ok after) p env out h = keep_ends _ after out h
merged_to_keeps (Err name) p env out h = fails_so _ out

module _ (a : Answers) (i : AreAnswersInOrder a) where
  brought_keeps : (path : List ℕ) (place : Place) (p : Position) (env : Environment) (out : Effects) → Leaves env (import_asked (a.imports path) path place out (λ value out1. merged_to (import_brought p value env) p env out1))
  brought_keeps path place p env out =
      keep_asks_import (a.imports path) path place out _ (i path) (λ value out1 o. merged_to_keeps (import_brought p value env) p env out1 (import_brought_keeps p value env o))

  content_keeps : (content : Content) (path : List ℕ) (at p : Position) → Keep (content_runs content a path at p)
  content_keeps is_absent path at p env out = fails_so _ out
  content_keeps (has_bytes bytes) path at p env out = brought_keeps path _ p env out
  content_keeps is_too_big path at p env out = brought_keeps path _ p env out

  path_keeps : (r : Result (List ℕ) PathFault) (at p : Position) → Keep (path_runs r a at p)
  path_keeps (Err e) at p env out = fails_so _ out
  path_keeps (Ok path) at p env out =
      so_if (is_system path) _ _ (fails_so _ out) (keep_asks_content (a.contents path) path _ out _ (λ content out1. content_keeps content path at p env out1))

  imported_keeps : (v : Val) (at p : Position) → Keep (imported_runs a v at p)
  unfolding imported_runs
  imported_keeps (vstr text) at p env out = path_keeps (path_meant env.setting.directory text) at p env out
  imported_keeps v at p env out = fails_so _ out

-- Templates

template_keeps : (v : Val) (at p : Position) (nesting : ℕ) (block : BlockTree) → Keep (template_defined_runs v at p nesting block)
unfolding template_defined_runs
template_keeps (vstr name) at p nesting block env out =
    so_if (has_template_here name env) _ _ (fails_so _ out) (keep_ends _ _ out (template_defined_keeps name p nesting block env))
template_keeps v at p nesting block env out = fails_so _ out

-- The calls

forwarding_keeps : (given : Option (FirstArgument × List Val)) (call : Call) → Keep (forwarding_runs given call)
unfolding forwarding_runs
forwarding_keeps (Some (source, names ∷ [])) call env out = forwarded_keeps source names None (at_argument call 0) (at_argument call 1) call.position call.name env out
forwarding_keeps (Some (source, names ∷ except ∷ [])) call env out =
    forwarded_keeps source names (Some (except, at_argument call 2)) (at_argument call 0) (at_argument call 1) call.position call.name env out
forwarding_keeps given call env out = fails_so _ out

unneeded_keeps : (given : Option (FirstArgument × List Val)) (call : Call) → Keep (unneeded_runs given call)
unfolding unneeded_runs
unneeded_keeps (Some (source, [])) call env out = unneeded_one_keeps source (at_argument call 0) call.position call.name env out
unneeded_keeps (Some (source, v ∷ [])) call env out = unneeded_two_keeps source v (at_argument call 0) (at_argument call 1) call.position call.name env out
unneeded_keeps (Some (source, v ∷ u ∷ [])) call env out =
    unneeded_three_keeps source v u (at_argument call 0) (at_argument call 1) (at_argument call 2) call.position call.name env out
unneeded_keeps given call env out = fails_so _ out

importing_keeps : (a : Answers) → AreAnswersInOrder a → (vs : List Val) (call : Call) → Keep (importing_runs a vs call)
importing_keeps a i (v ∷ []) call env out = imported_keeps a i v (at_argument call 0) call.position env out
importing_keeps a i vs call env out = fails_so _ out

defining_keeps : (vs : List Val) (block : Option BlockTree) (call : Call) (n : ℕ) → Keep (defining_runs vs block call n)
unfolding defining_runs
defining_keeps (v ∷ []) (Some block) call n env out = template_keeps v (at_argument call 0) call.position n block env out
defining_keeps vs block call n env out = fails_so _ out

label_named_keeps : (r : Result Label LabelFault) (at p : Position) → Keep (label_named_runs r at p)
label_named_keeps (Ok label) at p env out = keep_ends _ env _ (λ o. o)
label_named_keeps (Err fault) at p env out = fails_so _ out

toolchain_set_keeps : (v : Val) (at p : Position) → Keep (toolchain_set_runs v at p)
unfolding toolchain_set_runs
toolchain_set_keeps (vstr text) at p env out = label_named_keeps (label_read env.setting.directory env.setting.context.toolchain text) at p env out
toolchain_set_keeps v at p env out = fails_so _ out

toolchain_setting_keeps : (vs : List Val) (call : Call) → Keep (toolchain_setting_runs vs call)
unfolding toolchain_setting_runs
toolchain_setting_keeps (v ∷ []) call env out = toolchain_set_keeps v (at_argument call 0) call.position env out
toolchain_setting_keeps vs call env out = fails_so _ out

pub changed_keeps : (a : Answers) → AreAnswersInOrder a → (f : Changing) (invoker : Bool) (vs : List Val) (call : Call) (n : ℕ) → Keep (changed_runs a f invoker vs call n)
unfolding changed_runs
changed_keeps a i Import invoker vs call n env out = importing_keeps a i vs call env out
changed_keeps a i Template invoker vs call n env out = defining_keeps vs call.block call n env out
changed_keeps a i ForwardVariablesFrom invoker vs call n env out = forwarding_keeps (source_and_rest invoker vs) call env out
changed_keeps a i NotNeeded invoker vs call n env out = unneeded_keeps (source_and_rest invoker vs) call env out
changed_keeps a i SetDefaultToolchain invoker vs call n env out = toolchain_setting_keeps vs call env out
