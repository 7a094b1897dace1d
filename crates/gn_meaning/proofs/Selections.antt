-- What `forward_variables_from` and `not_needed` do ask nothing.
use Rattle.std.proofs.Common.{ℕ, List, [], Option, Some, None, Result, Ok, Err}
use Rattle.gn_tree.specs.declared.position.Position.{Position}
use Rattle.gn_values.specs.Limits.{scope_fits}
use Rattle.gn_values.specs.Val.{Val, vscope, entries_of}
use Rattle.gn_environment.specs.Environment.{Environment}
use Rattle.gn_environment.specs.Forwarding.{Origin, from_entries, from_invoker}
use Rattle.gn_environment.specs.Declaring.{names_brought}
use Rattle.gn_environment.specs.Invoker.{forwards_outer_invoker, outer_invoker_entries}
use Rattle.gn_meaning.specs.Steps.{Steps}
use Rattle.gn_meaning.specs.Selections.{FirstArgument, the_invoker, a_value, Selection, every_name, listed_names, other_text, no_names, strings_of, selection_of, excepting_runs, excepted_runs, selected_runs, forwarded_to, names_forwarded_runs, outer_invoker_runs, outer_invoker_forwarded_runs, invoker_forwarded_runs, listed_forwarded_runs, origin_forwarded_runs, forwarded_runs, unneeded_here_runs, unneeded_at_invoker_runs, unneeded_in_value_runs, unneeded_one_runs, unneeded_two_runs, unneeded_three_runs}
use Rattle.gn_meaning.proofs.Steps.{AreQuiet, tree_do, tree_ends, tree_fails, tree_if}

excepting_tree : {A : Type 0} (names : Option (List (List ℕ))) (at : Position) (next : List (List ℕ) → Steps A) → ((except : List (List ℕ)) → AreQuiet (next except)) → AreQuiet (excepting_runs names at next)
excepting_tree (Some names) at next t env out = t names env out
excepting_tree None at next t env out = tree_fails _ out

excepted_tree : {A : Type 0} (last : Option (Val × Position)) (next : List (List ℕ) → Steps A) → ((except : List (List ℕ)) → AreQuiet (next except)) → AreQuiet (excepted_runs last next)
excepted_tree None next t env out = t [] env out
excepted_tree (Some last) next t env out = excepting_tree (strings_of last.0) last.1 next t env out

selected_tree : {A : Type 0} (selection : Selection) (last : Option (Val × Position)) (at p : Position) (name : List ℕ) (all : List (List ℕ) → Steps A) (some : List (List ℕ) → List (List ℕ) → Steps A) → ((except : List (List ℕ)) → AreQuiet (all except)) → ((names except : List (List ℕ)) → AreQuiet (some names except)) → AreQuiet (selected_runs selection last at p name all some)
selected_tree every_name last at p name all some t u env out = excepted_tree last all t env out
selected_tree (listed_names names) last at p name all some t u env out = excepted_tree last (some names) (u names) env out
selected_tree other_text last at p name all some t u env out = excepted_tree last _ (λ except env1 out1. tree_fails _ out1) env out
selected_tree no_names last at p name all some t u env out = tree_fails _ out

-- Forwarding

forwarded_to_tree : (r : Result Environment (List ℕ)) (p : Position) → AreQuiet (forwarded_to r p)
forwarded_to_tree (Ok after) p env out = tree_ends _ after out
forwarded_to_tree (Err name) p env out = tree_fails _ out

names_forwarded_tree : (origin : Origin) (names except : List (List ℕ)) (p : Position) → AreQuiet (names_forwarded_runs origin names except p)
names_forwarded_tree origin names except p env out = forwarded_to_tree (names_brought p origin names except env) p env out

outer_invoker_tree : (p : Position) → AreQuiet (outer_invoker_runs p)
unfolding outer_invoker_runs
outer_invoker_tree p env out = tree_if (scope_fits (outer_invoker_entries env)) _ _ (tree_ends _ _ out) (tree_fails _ out)

outer_forwarded_tree : (names except : List (List ℕ)) (p : Position) → AreQuiet (outer_invoker_forwarded_runs names except p)
outer_forwarded_tree names except p env out =
    tree_do _ _ (outer_invoker_tree p env out) (λ outer env1 out1. names_forwarded_tree (from_invoker (Some outer)) names except p env1 out1)

invoker_forwarded_tree : (names except : List (List ℕ)) (p : Position) → AreQuiet (invoker_forwarded_runs names except p)
invoker_forwarded_tree names except p env out =
    tree_if (forwards_outer_invoker names except env) _ _ (outer_forwarded_tree names except p env out) (names_forwarded_tree (from_invoker None) names except p env out)

listed_forwarded_tree : (origin : Origin) (names except : List (List ℕ)) (p : Position) → AreQuiet (listed_forwarded_runs origin names except p)
listed_forwarded_tree (from_entries entries) names except p env out = names_forwarded_tree (from_entries entries) names except p env out
listed_forwarded_tree (from_invoker outer) names except p env out = invoker_forwarded_tree names except p env out

origin_forwarded_tree : (origin : Origin) (names : Val) (last : Option (Val × Position)) (at p : Position) (name : List ℕ) → AreQuiet (origin_forwarded_runs origin names last at p name)
origin_forwarded_tree origin names last at p name env out =
    selected_tree (selection_of names) last at p name _ _ (λ except env1 out1. tree_ends _ _ out1)
    (λ listed except env1 out1. listed_forwarded_tree origin listed except p env1 out1) env out

pub forwarded_tree : (source : FirstArgument) (names : Val) (last : Option (Val × Position)) (source_at at p : Position) (name : List ℕ) → AreQuiet (forwarded_runs source names last source_at at p name)
unfolding forwarded_runs
forwarded_tree the_invoker names last source_at at p name env out = origin_forwarded_tree (from_invoker None) names last at p name env out
forwarded_tree (a_value (vscope bs)) names last source_at at p name env out = origin_forwarded_tree (from_entries (entries_of bs)) names last at p name env out
forwarded_tree (a_value v) names last source_at at p name env out = tree_fails _ out

-- `not_needed`

here_tree : (names : Val) (last : Option (Val × Position)) (at p : Position) (name : List ℕ) → AreQuiet (unneeded_here_runs names last at p name)
here_tree names last at p name env out =
    selected_tree (selection_of names) last at p name _ _ (λ except env1 out1. tree_ends _ _ out1) (λ listed except env1 out1. tree_ends _ _ out1) env out

at_invoker_tree : (names : Val) (last : Option (Val × Position)) (at p : Position) (name : List ℕ) → AreQuiet (unneeded_at_invoker_runs names last at p name)
at_invoker_tree names last at p name env out =
    selected_tree (selection_of names) last at p name _ _ (λ except env1 out1. tree_ends _ _ out1) (λ listed except env1 out1. tree_ends _ _ out1) env out

in_value_tree : (names : Val) (last : Option (Val × Position)) (at p : Position) (name : List ℕ) → AreQuiet (unneeded_in_value_runs names last at p name)
in_value_tree names last at p name env out =
    selected_tree (selection_of names) last at p name _ _ (λ except env1 out1. tree_ends _ _ out1) (λ listed except env1 out1. tree_ends _ _ out1) env out

pub unneeded_one_tree : (source : FirstArgument) (at p : Position) (name : List ℕ) → AreQuiet (unneeded_one_runs source at p name)
unfolding unneeded_one_runs
unneeded_one_tree the_invoker at p name env out = tree_fails _ out
unneeded_one_tree (a_value (vscope bs)) at p name env out = tree_fails _ out
unneeded_one_tree (a_value v) at p name env out = here_tree v None at p name env out

pub unneeded_two_tree : (source : FirstArgument) (second : Val) (first_at at p : Position) (name : List ℕ) → AreQuiet (unneeded_two_runs source second first_at at p name)
unfolding unneeded_two_runs
unneeded_two_tree the_invoker second first_at at p name env out = at_invoker_tree second None at p name env out
unneeded_two_tree (a_value (vscope bs)) second first_at at p name env out = in_value_tree second None at p name env out
unneeded_two_tree (a_value v) second first_at at p name env out = here_tree v (Some (second, at)) first_at p name env out

pub unneeded_three_tree : (source : FirstArgument) (names last : Val) (first_at at last_at p : Position) (name : List ℕ) → AreQuiet (unneeded_three_runs source names last first_at at last_at p name)
unfolding unneeded_three_runs
unneeded_three_tree the_invoker names last first_at at last_at p name env out = at_invoker_tree names (Some (last, last_at)) at p name env out
unneeded_three_tree (a_value (vscope bs)) names last first_at at last_at p name env out = in_value_tree names (Some (last, last_at)) at p name env out
unneeded_three_tree (a_value v) names last first_at at last_at p name env out = tree_fails _ out
