-- `forward_variables_from` and `not_needed`.
use Rattle.std.specs.Prelude.{ℕ, Bool, false, if◌then◌else◌, List, [], ◌∷◌, Option, Some, None, Result, Ok, Err, codes}
use Rattle.std.specs.List.{list_all}
use Rattle.std.specs.Str.{bytes_eq}
use Rattle.gn_tree.specs.declared.position.Position.{Position}
use Rattle.gn_tree.specs.Tree.{ExprTree, name_expr}
use Rattle.gn_values.specs.Limits.{scope_fits}
use Rattle.gn_values.specs.Val.{Val, vstr, vlist, vscope, list_of, binds_of, entries_of}
use Rattle.gn_faults.specs.declared.code.Code.TheVariants as code
use Rattle.gn_environment.specs.Environment.{Environment}
use Rattle.gn_environment.specs.Invoker.{names_invoker, after_invoker_read_but, after_invoker_names_read, forwards_outer_invoker, outer_invoker_entries, after_outer_invoker_read}
use Rattle.gn_environment.specs.Forwarding.{Origin, from_entries, from_invoker, after_names_read_here, after_all_read_here}
use Rattle.gn_environment.specs.Declaring.{names_brought, all_brought}
use Rattle.gn_meaning.specs.Steps.{Steps, ends, then_do}
use Rattle.gn_meaning.specs.Words.{fails_at}
use Rattle.gn_meaning.specs.Items.{is_string}

-- whether an expression is the bare name of the invoker: then the invoker itself is meant, and this is no read
abbrev pub is_bare_invoker : ExprTree → Environment → Bool
is_bare_invoker (name_expr position name) env = names_invoker name env
is_bare_invoker _ env = false

-- an argument that may be the invoker: that, or a value
pub data FirstArgument : Type 0 where
  the_invoker : FirstArgument
  a_value : Val → FirstArgument

-- which names an argument selects: all of them by `"*"`, or those of a list of strings; another string and any other value select none
pub data Selection : Type 0 where
  every_name : Selection
  listed_names : List (List ℕ) → Selection
  other_text : Selection
  no_names : Selection

abbrev pub texts_in : List Val → List (List ℕ)
texts_in [] = []
texts_in (vstr t ∷ vs) = t ∷ texts_in vs
texts_in (_ ∷ vs) = texts_in vs

-- the strings of a list, if it is one of strings alone
unfoldable pub strings_of : Val → Option (List (List ℕ))
strings_of (vlist vs) = if list_all is_string (list_of vs) then Some (texts_in (list_of vs)) else None
strings_of _ = None

abbrev pub listed : Option (List (List ℕ)) → Selection
listed (Some names) = listed_names names
listed None = no_names

unfoldable pub selection_of : Val → Selection
selection_of (vstr t) = if bytes_eq t (codes "*") then every_name else other_text
selection_of v = listed (strings_of v)

-- the excepted names, which have to be a list of strings
abbrev pub excepting_runs : {A : Type 0} → Option (List (List ℕ)) → Position → (List (List ℕ) → Steps A) → Steps A
excepting_runs (Some names) at next env out = next names env out
excepting_runs None at next env out = fails_at code.BadTypes at [] env out

-- no excepted names, or those of the last argument
abbrev pub excepted_runs : {A : Type 0} → Option (Val × Position) → (List (List ℕ) → Steps A) → Steps A
excepted_runs None next env out = next [] env out
excepted_runs (Some last) next env out = excepting_runs (strings_of last.0) last.1 next env out

-- what is done with a selection and the excepted names: the types of both are judged in their order, and then a string that isn't `"*"`
abbrev pub selected_runs : {A : Type 0} → Selection → Option (Val × Position) → Position → Position → List ℕ → (List (List ℕ) → Steps A) → (List (List ℕ) → List (List ℕ) → Steps A) → Steps A
selected_runs every_name last at position name all some env out = excepted_runs last all env out
selected_runs (listed_names names) last at position name all some env out = excepted_runs last (some names) env out
selected_runs other_text last at position name all some env out = excepted_runs last (λ except env1 out1. fails_at code.BadArguments position (name ∷ []) env1 out1) env out
selected_runs no_names last at position name all some env out = fails_at code.BadTypes at [] env out

-- Forwarding

abbrev pub forwarded_to : Result Environment (List ℕ) → Position → Steps (Option Val)
forwarded_to (Ok after) position env out = ends None after out
forwarded_to (Err name) position env out = fails_at code.AlreadySet position (name ∷ []) env out

-- these names of an origin, but for the excepted ones
abbrev pub names_forwarded_runs : Origin → List (List ℕ) → List (List ℕ) → Position → Steps (Option Val)
names_forwarded_runs origin names except position env out = forwarded_to (names_brought position origin names except env) position env out

-- the invoker around the call as a value: all its names are read, and it must not nest too deep for a scope's value
unfoldable pub outer_invoker_runs : Position → Steps Val
outer_invoker_runs position env out =
    if scope_fits (outer_invoker_entries env) then ends (vscope (binds_of (outer_invoker_entries env))) (after_outer_invoker_read env) out
    else fails_at code.TooLong position [] env out

-- names of the invoker, where the invoker around the call is one of them: that is read as a value first
abbrev pub outer_invoker_forwarded_runs : List (List ℕ) → List (List ℕ) → Position → Steps (Option Val)
outer_invoker_forwarded_runs names except position env out =
    then_do (outer_invoker_runs position env out) (λ outer env1 out1. names_forwarded_runs (from_invoker (Some outer)) names except position env1 out1)

-- names of the invoker
abbrev pub invoker_forwarded_runs : List (List ℕ) → List (List ℕ) → Position → Steps (Option Val)
invoker_forwarded_runs names except position env out =
    if forwards_outer_invoker names except env then outer_invoker_forwarded_runs names except position env out
    else names_forwarded_runs (from_invoker None) names except position env out

-- a list of names
abbrev pub listed_forwarded_runs : Origin → List (List ℕ) → List (List ℕ) → Position → Steps (Option Val)
listed_forwarded_runs (from_entries entries) names except position env out = names_forwarded_runs (from_entries entries) names except position env out
listed_forwarded_runs (from_invoker outer) names except position env out = invoker_forwarded_runs names except position env out

abbrev pub origin_forwarded_runs : Origin → Val → Option (Val × Position) → Position → Position → List ℕ → Steps (Option Val)
origin_forwarded_runs origin names last at position name env out =
    selected_runs (selection_of names) last at position name (λ except env1 out1. ends None (all_brought position origin except env1) out1)
    (λ listed except env1 out1. listed_forwarded_runs origin listed except position env1 out1) env out

-- `forward_variables_from`: the source at its position, the names at theirs, and the excepted names, if there are any
unfoldable pub forwarded_runs : FirstArgument → Val → Option (Val × Position) → (source_at at position : Position) → List ℕ → Steps (Option Val)
forwarded_runs the_invoker names last source_at at position name env out = origin_forwarded_runs (from_invoker None) names last at position name env out
forwarded_runs (a_value (vscope bs)) names last source_at at position name env out = origin_forwarded_runs (from_entries (entries_of bs)) names last at position name env out
forwarded_runs (a_value _) names last source_at at position name env out = fails_at code.BadTypes source_at [] env out

-- `not_needed`

-- names of the innermost scope
abbrev pub unneeded_here_runs : Val → Option (Val × Position) → Position → Position → List ℕ → Steps (Option Val)
unneeded_here_runs names last at position name env out =
    selected_runs (selection_of names) last at position name (λ except env1 out1. ends None (after_all_read_here except env1) out1)
    (λ listed except env1 out1. ends None (after_names_read_here listed except env1) out1) env out

-- names of the invoker
abbrev pub unneeded_at_invoker_runs : Val → Option (Val × Position) → Position → Position → List ℕ → Steps (Option Val)
unneeded_at_invoker_runs names last at position name env out =
    selected_runs (selection_of names) last at position name (λ except env1 out1. ends None (after_invoker_read_but except env1) out1)
    (λ listed except env1 out1. ends None (after_invoker_names_read listed except env1) out1) env out

-- names of a scope that is a value, which has no unread names
abbrev pub unneeded_in_value_runs : Val → Option (Val × Position) → Position → Position → List ℕ → Steps (Option Val)
unneeded_in_value_runs names last at position name env out =
    selected_runs (selection_of names) last at position name (λ except env1 out1. ends None env1 out1) (λ listed except env1 out1. ends None env1 out1) env out

-- with one argument: names; a scope alone selects none
unfoldable pub unneeded_one_runs : FirstArgument → (at position : Position) → List ℕ → Steps (Option Val)
unneeded_one_runs the_invoker at position name env out = fails_at code.BadArguments position (name ∷ []) env out
unneeded_one_runs (a_value (vscope bs)) at position name env out = fails_at code.BadArguments position (name ∷ []) env out
unneeded_one_runs (a_value v) at position name env out = unneeded_here_runs v None at position name env out

-- with two arguments the type of the first one decides the form: names of a scope, or names and excepted names
unfoldable pub unneeded_two_runs : FirstArgument → Val → (first_at at position : Position) → List ℕ → Steps (Option Val)
unneeded_two_runs the_invoker second first_at at position name env out = unneeded_at_invoker_runs second None at position name env out
unneeded_two_runs (a_value (vscope bs)) second first_at at position name env out = unneeded_in_value_runs second None at position name env out
unneeded_two_runs (a_value v) second first_at at position name env out = unneeded_here_runs v (Some (second, at)) first_at position name env out

-- with three arguments: names of a scope, and excepted names
unfoldable pub unneeded_three_runs : FirstArgument → Val → Val → (first_at at last_at position : Position) → List ℕ → Steps (Option Val)
unneeded_three_runs the_invoker names last first_at at last_at position name env out = unneeded_at_invoker_runs names (Some (last, last_at)) at position name env out
unneeded_three_runs (a_value (vscope bs)) names last first_at at last_at position name env out = unneeded_in_value_runs names (Some (last, last_at)) at position name env out
unneeded_three_runs (a_value _) names last first_at at last_at position name env out = fails_at code.BadTypes first_at [] env out
