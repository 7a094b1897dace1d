-- Small steps of an evaluation, which ask nothing.
use Rattle.std.specs.Prelude.{ℕ, Bool, true, false, ◌&&◌, not, List, [], ◌∷◌, if◌then◌else◌, Option, Some, None, Result, Ok, Err}
use Rattle.gn_tree.specs.declared.position.Position.{Position}
use Rattle.gn_tree.specs.declared.operator.AssignOp.{AssignOp}
use Rattle.gn_tree.specs.declared.operator.AssignOp.TheVariants as assign
use Rattle.gn_tree.specs.declared.operator.BinaryOp.{BinaryOp}
use Rattle.gn_tree.specs.declared.operator.BinaryOp.TheVariants.{Add, Subtract, Less, LessEqual, Greater, GreaterEqual, Equal, NotEqual, And, Or}
use Rattle.gn_values.specs.Val.{Val, vbool, vstr, vlist, vscope, vals_of, binds_of}
use Rattle.gn_values.specs.Operators.{sum_of, difference_of, comparison_of, element_of}
use Rattle.gn_values.specs.Equal.{equals}
use Rattle.gn_values.specs.Limits.{list_fits, scope_fits, text_fits}
use Rattle.gn_values.specs.Text.{text_of}
use Rattle.gn_values.specs.declared.comparison.Compare.TheVariants as compare
use Rattle.gn_values.specs.declared.error.ValueError.{ValueError}
use Rattle.gn_values.specs.declared.error.ValueError.TheVariants as value_error
use Rattle.gn_values.specs.declared.error.ElementError.{ElementError}
use Rattle.gn_values.specs.declared.error.ElementError.TheVariants as element_error
use Rattle.gn_faults.specs.declared.code.Code.{Code}
use Rattle.gn_faults.specs.declared.code.Code.TheVariants as code
use Rattle.gn_items.specs.Effects.{Effects}
use Rattle.gn_runs.specs.Runs.{Run}
use Rattle.gn_environment.specs.Environment.{Environment, value_of, after_read, after_assignment, after_assignment_over, after_element_assignment, after_element_assignment_over, given, entries_here, left}
use Rattle.gn_environment.specs.Invoker.{names_invoker, is_invoker_here, invoker_entries, invoker_entry, after_invoker_read, after_invoker_entry_read}
use Rattle.gn_environment.specs.Assigning.{replaces, Refusal, replaces_nonempty, has_no_value, operator_refuses, ElementRefusal, base_has_no_value, element_refuses}
use Rattle.gn_environment.specs.Faults.{fault_in}
use Rattle.gn_meaning.specs.Steps.{Left, ends, breaks}

-- the code of what an operator refuses; want of memory is no meaning's
abbrev pub code_of : ValueError → Code
code_of value_error.BadTypes = code.BadTypes
code_of value_error.Overflow = code.Overflow
code_of value_error.NotInList = code.NotInList
code_of value_error.BadIndex = code.BadIndex
code_of value_error.Undefined = code.Undefined
code_of value_error.TooLong = code.TooLong
code_of value_error.Memory = code.TooLong

-- the fault with this code and these details at a position
abbrev pub fails_at : {A : Type 0} → Code → Position → List (List ℕ) → Environment → Effects → Run (Left A)
fails_at c position detail env out = breaks (fault_in env.setting position c detail) out

-- the name that a missing entry has in its fault: the text of the subscript
abbrev pub element_detail : ValueError → Val → List (List ℕ)
element_detail value_error.Undefined at = text_of false at ∷ []
element_detail _ at = []

-- a value, or the fault of an operator at its position
abbrev pub value_or_fault : Result Val ValueError → Position → Environment → Effects → Run (Left Val)
value_or_fault (Ok v) position env out = ends v env out
value_or_fault (Err e) position env out = fails_at (code_of e) position [] env out

-- an element, or the fault of its subscript at this position
abbrev pub element_or_fault : Result Val ValueError → Val → Position → Environment → Effects → Run (Left Val)
element_or_fault (Ok v) at position env out = ends v env out
element_or_fault (Err e) at position env out = fails_at (code_of e) position (element_detail e at) env out

-- what the name is worth, if it has a value
abbrev pub value_or_undefined : Option Val → List ℕ → Position → Environment → Effects → Run (Left Val)
value_or_undefined (Some v) name position env out = ends v (after_read name env) out
value_or_undefined None name position env out = fails_at code.Undefined position (name ∷ []) env out

-- the invoker as a value: all its names are read, and it must not nest too deep for a scope's value
unfoldable pub invoker_runs : Position → Environment → Effects → Run (Left Val)
invoker_runs position env out =
    if scope_fits (invoker_entries env) then ends (vscope (binds_of (invoker_entries env))) (after_invoker_read env) out
    else fails_at code.TooLong position [] env out

-- reading a name
unfoldable pub name_runs : List ℕ → Position → Environment → Effects → Run (Left Val)
name_runs name position env out =
    if names_invoker name env then invoker_runs position env out else value_or_undefined (value_of name env) name position env out

-- `base[at]` and `base.at`: the base is read, then its element; a base without value stands at the base, all else at the subscript
abbrev pub element_of_base : Option Val → List ℕ → Position → Val → Position → Environment → Effects → Run (Left Val)
element_of_base (Some v) base base_position at position env out = element_or_fault (element_of v at) at position (after_read base env) out
element_of_base None base base_position at position env out = fails_at code.Undefined base_position (base ∷ []) env out

-- `invoker.name` and `invoker[name]`: this name alone is read
abbrev pub entry_or_undefined : Option Val → List ℕ → Position → Environment → Effects → Run (Left Val)
entry_or_undefined (Some v) name position env out = ends v (after_invoker_entry_read name env) out
entry_or_undefined None name position env out = fails_at code.Undefined position (name ∷ []) env out

unfoldable pub invoker_element_runs : Val → Position → Environment → Effects → Run (Left Val)
invoker_element_runs (vstr name) position env out = entry_or_undefined (invoker_entry name env) name position env out
invoker_element_runs _ position env out = fails_at code.BadTypes position [] env out

unfoldable pub element_runs : List ℕ → Position → Val → Position → Environment → Effects → Run (Left Val)
element_runs base base_position at position env out =
    if names_invoker base env then invoker_element_runs at position env out
    else element_of_base (value_of base env) base base_position at position env out

-- a name that has to have a value before what follows is evaluated
unfoldable pub base_runs : List ℕ → Position → Environment → Effects → Run (Left (Unit {0}))
base_runs base position env out = if names_invoker base env then ends tt env out else found (value_of base env)
  where
    found : Option Val → Run (Left (Unit {0}))
    found (Some v) = ends tt (after_read base env) out
    found None = fails_at code.Undefined position (base ∷ []) env out

-- `!`
unfoldable pub negation_runs : Val → Position → Environment → Effects → Run (Left Val)
negation_runs (vbool b) position env out = ends (vbool (not b)) env out
negation_runs _ position env out = fails_at code.BadTypes position [] env out

-- an operator between values
abbrev pub boolean_result : Result Bool ValueError → Result Val ValueError
boolean_result (Ok b) = Ok (vbool b)
boolean_result (Err e) = Err e

-- an operator whose sides are both evaluated first
unfoldable pub operated : BinaryOp → Val → Val → Result Val ValueError
operated Add left right = sum_of left right
operated Subtract left right = difference_of left right
operated Less left right = boolean_result (comparison_of compare.Less left right)
operated LessEqual left right = boolean_result (comparison_of compare.LessOrEqual left right)
operated Greater left right = boolean_result (comparison_of compare.Greater left right)
operated GreaterEqual left right = boolean_result (comparison_of compare.GreaterOrEqual left right)
operated Equal left right = Ok (vbool (equals left right))
operated NotEqual left right = Ok (vbool (not (equals left right)))
operated And left right = Err value_error.BadTypes
operated Or left right = Err value_error.BadTypes

-- the right side of `&&` and `||`, which has to be a boolean
unfoldable pub boolean_runs : Val → Position → Environment → Effects → Run (Left Val)
boolean_runs (vbool b) position env out = ends (vbool b) env out
boolean_runs _ position env out = fails_at code.BadTypes position [] env out

-- a list and a scope that are written out, within the limits or a fault at their opening bracket
unfoldable pub list_runs : List Val → Position → Environment → Effects → Run (Left Val)
list_runs items position env out =
    if list_fits items then ends (vlist (vals_of items)) env out else fails_at code.TooLong position [] env out

unfoldable pub scope_runs : Position → Environment → Effects → Run (Left Val)
scope_runs position env out =
    if scope_fits (entries_here env) then ends (vscope (binds_of (entries_here env))) (left env) out else fails_at code.TooLong position [] env out

-- a string that is written out, within the limit or a fault at its opening quote
unfoldable pub string_runs : List ℕ → Position → Environment → Effects → Run (Left Val)
string_runs text position env out =
    if text_fits text then ends (vstr text) env out else fails_at code.TooLong position [] env out

-- an assignment that was made or refused: what replaces stands at the operator, a missing value at the name
unfoldable pub assigned_to : Result Environment Refusal → List ℕ → Position → Position → Environment → Effects → Run (Left (Unit {0}))
assigned_to (Ok after) name at operator env out = ends tt after out
assigned_to (Err replaces_nonempty) name at operator env out = fails_at code.Overwrite operator (name ∷ []) env out
assigned_to (Err has_no_value) name at operator env out = fails_at code.Undefined at (name ∷ []) env out
assigned_to (Err (operator_refuses e)) name at operator env out = fails_at (code_of e) operator [] env out

-- an assignment to an element that was made or refused: its subscript stands at the bracket or the dot
abbrev pub element_fault : ElementError → Val → Position → Position → Environment → Effects → Run (Left (Unit {0}))
element_fault (element_error.Subscript e) at subscript operator env out = fails_at (code_of e) subscript (element_detail e at) env out
element_fault (element_error.Operator e) at subscript operator env out = fails_at (code_of e) operator [] env out
element_fault element_error.Memory at subscript operator env out = fails_at code.TooLong operator [] env out

unfoldable pub element_assigned_to : Result Environment ElementRefusal → List ℕ → Position → Val → Position → Position → Environment → Effects → Run (Left (Unit {0}))
element_assigned_to (Ok after) name base at subscript operator env out = ends tt after out
element_assigned_to (Err base_has_no_value) name base at subscript operator env out = fails_at code.Undefined base (name ∷ []) env out
element_assigned_to (Err (element_refuses e)) name base at subscript operator env out = element_fault e at subscript operator env out

-- assigning to a name. `+=` and `-=` on the invoker read it as a value
abbrev pub changes_value : AssignOp → Bool
changes_value assign.Set = false
changes_value assign.Add = true
changes_value assign.Subtract = true

-- the steps over the invoker's value, where it is within the limits; else a fault at the operator
abbrev pub over_invoker : Position → (Val → Environment → Run (Left (Unit {0}))) → Environment → Effects → Run (Left (Unit {0}))
over_invoker operator next env out =
    if scope_fits (invoker_entries env) then next (vscope (binds_of (invoker_entries env))) (after_invoker_read env) else fails_at code.TooLong operator [] env out

-- `=` in the scope in which the invoker stands is that of a name that was read: it stays read, and a scope that isn't empty takes the place of none
unfoldable pub invoker_replaced_runs : List ℕ → Position → Val → Environment → Effects → Run (Left (Unit {0}))
invoker_replaced_runs name operator v env out =
    if replaces (vscope (binds_of (invoker_entries env))) v then fails_at code.Overwrite operator (name ∷ []) env out else ends tt (given name v env) out

unfoldable pub name_assigned_runs : List ℕ → Position → AssignOp → Position → Val → Environment → Effects → Run (Left (Unit {0}))
name_assigned_runs name at op operator v env out =
    if changes_value op && names_invoker name env
    then over_invoker operator (λ old env1. assigned_to (after_assignment_over old name op v operator env1) name at operator env1 out) env out
    else if is_invoker_here name env then invoker_replaced_runs name operator v env out
    else assigned_to (after_assignment name op v operator env) name at operator env out

-- assigning to an element of a variable
unfoldable pub variable_element_assigned_runs : List ℕ → Position → Val → Position → AssignOp → Position → Val → Environment → Effects → Run (Left (Unit {0}))
variable_element_assigned_runs base base_position at subscript op operator v env out =
    element_assigned_to (after_element_assignment base at op v operator env) base base_position at subscript operator env out

-- assigning to an element of the invoker, which has this value: where it stands it is a variable that was read, and further in it is copied inwards
unfoldable pub invoker_element_assigned_runs : Val → List ℕ → Position → Val → Position → AssignOp → Position → Val → Environment → Effects → Run (Left (Unit {0}))
invoker_element_assigned_runs old base base_position at subscript op operator v env out =
    if is_invoker_here base env
    then variable_element_assigned_runs base base_position at subscript op operator v (given base old env) out
    else element_assigned_to (after_element_assignment_over old base at op v operator env) base base_position at subscript operator env out

-- assigning to an element
unfoldable pub element_assigned_runs : List ℕ → Position → Val → Position → AssignOp → Position → Val → Environment → Effects → Run (Left (Unit {0}))
element_assigned_runs base base_position at subscript op operator v env out =
    if names_invoker base env
    then over_invoker operator (λ old env1. invoker_element_assigned_runs old base base_position at subscript op operator v env1 out) env out
    else variable_element_assigned_runs base base_position at subscript op operator v env out
