-- The small steps of an evaluation are trees of questions: a line for each case.
use Rattle.std.proofs.Common.{◌≡◌, ℕ, Bool, true, false, ◌&&◌, ◌++◌, List, [], ◌∷◌, Option, Some, None, Result, Ok, Err, refl}
use Rattle.gn_tree.specs.declared.position.Position.{Position}
use Rattle.gn_tree.specs.declared.operator.AssignOp.{AssignOp}
use Rattle.gn_tree.specs.declared.piece.Piece.{Piece}
use Rattle.gn_tree.specs.declared.piece.Piece.TheVariants.{Bytes, Name, Item as ItemPiece, Entry}
use Rattle.gn_tree.specs.declared.piece.Subscript.{Subscript}
use Rattle.gn_tree.specs.declared.piece.Subscript.TheVariants.{Name as NameSubscript, Integer}
use Rattle.gn_values.specs.Val.{Val, vbool, vstr, vscope, binds_of}
use Rattle.gn_values.specs.declared.error.ValueError.{ValueError}
use Rattle.gn_values.specs.declared.error.ElementError.{ElementError}
use Rattle.gn_values.specs.declared.error.ElementError.TheVariants as element_error
use Rattle.gn_values.specs.Limits.{list_fits, scope_fits, text_fits}
use Rattle.gn_items.specs.Effects.{Effects}
use Rattle.gn_runs.specs.Runs.{Question, Answers, Run}
use Rattle.gn_environment.specs.Environment.{Environment, value_of, given, entries_here, after_assignment, after_assignment_over, after_element_assignment, after_element_assignment_over}
use Rattle.gn_environment.specs.Invoker.{names_invoker, is_invoker_here, invoker_entries, invoker_entry}
use Rattle.gn_environment.specs.Assigning.{replaces, Refusal, replaces_nonempty, has_no_value, operator_refuses, ElementRefusal, base_has_no_value, element_refuses}
use Rattle.gn_meaning.specs.Steps.{Left}
use Rattle.gn_meaning.specs.Words.{value_or_fault, element_or_fault, value_or_undefined, invoker_runs, name_runs, element_of_base, entry_or_undefined, invoker_element_runs, element_runs, base_runs, negation_runs, boolean_runs, list_runs, scope_runs, string_runs, assigned_to, element_fault, element_assigned_to, changes_value, over_invoker, invoker_replaced_runs, name_assigned_runs, variable_element_assigned_runs, invoker_element_assigned_runs, element_assigned_runs}
use Rattle.gn_meaning.specs.Pieces.{subscript_runs, text_runs, piece_runs, pieces_run}
use Rattle.gn_meaning.proofs.Steps.{IsTreeBehind, AreQuiet, tree_do, tree_ends, tree_fails, tree_if}

-- Values and names

pub value_tree : (r : Result Val ValueError) (p : Position) → AreQuiet (value_or_fault r p)
value_tree (Ok v) p env out = tree_ends v env out
value_tree (Err e) p env out = tree_fails _ out

element_or_fault_tree : (r : Result Val ValueError) (at : Val) (p : Position) → AreQuiet (element_or_fault r at p)
element_or_fault_tree (Ok v) at p env out = tree_ends v env out
element_or_fault_tree (Err e) at p env out = tree_fails _ out

value_or_undefined_tree : (v : Option Val) (name : List ℕ) (p : Position) → AreQuiet (value_or_undefined v name p)
value_or_undefined_tree (Some v) name p env out = tree_ends _ _ _
value_or_undefined_tree None name p env out = tree_fails _ out

invoker_tree : (p : Position) → AreQuiet (invoker_runs p)
unfolding invoker_runs
invoker_tree p env out = tree_if (scope_fits (invoker_entries env)) _ _ (tree_ends _ _ out) (tree_fails _ out)

pub name_tree : (name : List ℕ) (p : Position) → AreQuiet (name_runs name p)
unfolding name_runs
name_tree name p env out = tree_if (names_invoker name env) _ _ (invoker_tree p env out) (value_or_undefined_tree (value_of name env) name p env out)

element_of_base_tree : (v : Option Val) (base : List ℕ) (q : Position) (at : Val) (p : Position) → AreQuiet (element_of_base v base q at p)
element_of_base_tree (Some v) base q at p env out = element_or_fault_tree _ at p _ out
element_of_base_tree None base q at p env out = tree_fails _ out

entry_tree : (v : Option Val) (name : List ℕ) (p : Position) → AreQuiet (entry_or_undefined v name p)
entry_tree (Some v) name p env out = tree_ends _ _ _
entry_tree None name p env out = tree_fails _ out

invoker_element_tree : (at : Val) (p : Position) → AreQuiet (invoker_element_runs at p)
unfolding invoker_element_runs
invoker_element_tree (vstr name) p env out = entry_tree (invoker_entry name env) name p env out
invoker_element_tree at p env out = tree_fails _ out

pub element_tree : (base : List ℕ) (q : Position) (at : Val) (p : Position) → AreQuiet (element_runs base q at p)
unfolding element_runs
element_tree base q at p env out =
    tree_if (names_invoker base env) _ _ (invoker_element_tree at p env out) (element_of_base_tree (value_of base env) base q at p env out)

pub base_tree : (base : List ℕ) (p : Position) → AreQuiet (base_runs base p)
unfolding base_runs
base_tree base p env out = by (names_invoker base env) refl (value_of base env) refl
  where
    by : (b : Bool) → names_invoker base env ≡ b → (v : Option Val) → value_of base env ≡ v → IsTreeBehind out.asked (λ a. base_runs base p env out)
    by true d v e = rw d (tree_ends _ _ _)
    by false d (Some v) e = rw (d, e) (tree_ends _ _ _)
    by false d None e = rw (d, e) (tree_fails _ out)

pub negation_tree : (v : Val) (p : Position) → AreQuiet (negation_runs v p)
unfolding negation_runs
negation_tree (vbool b) p env out = tree_ends _ env out
negation_tree v p env out = tree_fails _ out

pub boolean_tree : (v : Val) (p : Position) → AreQuiet (boolean_runs v p)
unfolding boolean_runs
boolean_tree (vbool b) p env out = tree_ends _ env out
boolean_tree v p env out = tree_fails _ out

pub list_tree : (vs : List Val) (p : Position) → AreQuiet (list_runs vs p)
unfolding list_runs
list_tree vs p env out = tree_if (list_fits vs) _ _ (tree_ends _ env out) (tree_fails _ out)

pub scope_tree : (p : Position) → AreQuiet (scope_runs p)
unfolding scope_runs
scope_tree p env out = tree_if (scope_fits (entries_here env)) _ _ (tree_ends _ _ out) (tree_fails _ out)

pub string_tree : (text : List ℕ) (p : Position) → AreQuiet (string_runs text p)
unfolding string_runs
string_tree text p env out = tree_if (text_fits text) _ _ (tree_ends _ env out) (tree_fails _ out)

-- Assignments

assigned_tree : (r : Result Environment Refusal) (name : List ℕ) (at p : Position) → AreQuiet (assigned_to r name at p)
unfolding assigned_to
assigned_tree (Ok after) name at p env out = tree_ends tt after out
assigned_tree (Err replaces_nonempty) name at p env out = tree_fails _ out
assigned_tree (Err has_no_value) name at p env out = tree_fails _ out
assigned_tree (Err (operator_refuses e)) name at p env out = tree_fails _ out

element_fault_tree : (e : ElementError) (at : Val) (p q : Position) → AreQuiet (element_fault e at p q)
element_fault_tree (element_error.Subscript e) at p q env out = tree_fails _ out
element_fault_tree (element_error.Operator e) at p q env out = tree_fails _ out
element_fault_tree element_error.Memory at p q env out = tree_fails _ out

element_assigned_tree : (r : Result Environment ElementRefusal) (name : List ℕ) (base : Position) (at : Val) (p q : Position) → AreQuiet (element_assigned_to r name base at p q)
unfolding element_assigned_to
element_assigned_tree (Ok after) name base at p q env out = tree_ends tt after out
element_assigned_tree (Err base_has_no_value) name base at p q env out = tree_fails _ out
element_assigned_tree (Err (element_refuses e)) name base at p q env out = element_fault_tree e at p q env out

over_invoker_tree : (p : Position) (next : Val → Environment → Run (Left (Unit {0}))) (env : Environment) (out : Effects) → ((v : Val) (env1 : Environment) → IsTreeBehind out.asked (λ a. next v env1)) → IsTreeBehind out.asked (λ a. over_invoker p next env out)
over_invoker_tree p next env out t = tree_if (scope_fits (invoker_entries env)) _ _ (t _ _) (tree_fails _ out)

invoker_replaced_tree : (name : List ℕ) (p : Position) (v : Val) → AreQuiet (invoker_replaced_runs name p v)
unfolding invoker_replaced_runs
invoker_replaced_tree name p v env out =
    tree_if (replaces (vscope (binds_of (invoker_entries env))) v) _ _ (tree_fails _ out) (tree_ends _ _ out)

pub name_assigned_tree : (name : List ℕ) (at : Position) (op : AssignOp) (p : Position) (v : Val) → AreQuiet (name_assigned_runs name at op p v)
unfolding name_assigned_runs
name_assigned_tree name at op p v env out =
    tree_if (changes_value op && names_invoker name env) _ _ (over_invoker_tree p _ env out (λ old env1. assigned_tree (after_assignment_over old name op v p env1) name at p env1 out))
    (tree_if (is_invoker_here name env) _ _ (invoker_replaced_tree name p v env out) (assigned_tree (after_assignment name op v p env) name at p env out))

variable_element_tree : (base : List ℕ) (base_position : Position) (at : Val) (q : Position) (op : AssignOp) (p : Position) (v : Val) → AreQuiet (variable_element_assigned_runs base base_position at q op p v)
unfolding variable_element_assigned_runs
variable_element_tree base base_position at q op p v env out =
    element_assigned_tree (after_element_assignment base at op v p env) base base_position at q p env out

invoker_element_changed_tree : (old : Val) (base : List ℕ) (base_position : Position) (at : Val) (q : Position) (op : AssignOp) (p : Position) (v : Val) → AreQuiet (invoker_element_assigned_runs old base base_position at q op p v)
unfolding invoker_element_assigned_runs
invoker_element_changed_tree old base base_position at q op p v env out =
    tree_if (is_invoker_here base env) _ _ (variable_element_tree base base_position at q op p v (given base old env) out)
    (element_assigned_tree (after_element_assignment_over old base at op v p env) base base_position at q p env out)

pub element_changed_tree : (base : List ℕ) (base_position : Position) (at : Val) (q : Position) (op : AssignOp) (p : Position) (v : Val) → AreQuiet (element_assigned_runs base base_position at q op p v)
unfolding element_assigned_runs
element_changed_tree base base_position at q op p v env out =
    tree_if (names_invoker base env) _ _ (over_invoker_tree p _ env out (λ old env1. invoker_element_changed_tree old base base_position at q op p v env1 out)) (variable_element_tree base base_position at q op p v env out)

-- Strings

subscript_tree : (s : Subscript) (p : Position) → AreQuiet (subscript_runs s p)
subscript_tree (NameSubscript name) p env out = name_tree name p env out
subscript_tree (Integer n) p env out = tree_ends _ env out

text_tree : {asked : List Question} (m : Answers → Run (Left Val)) → IsTreeBehind asked m → IsTreeBehind asked (λ a. text_runs (m a))
text_tree m t = tree_do _ _ t (λ v env out. tree_ends _ env out)

piece_tree : (piece : Piece) → AreQuiet (piece_runs piece)
unfolding piece_runs
piece_tree (Bytes text) env out = tree_ends text env out
piece_tree (Name p name) env out = text_tree _ (name_tree name p env out)
piece_tree (ItemPiece p base s) env out =
    text_tree _ (tree_do _ _ (base_tree base p env out) (λ _ env1 out1. tree_do _ _ (subscript_tree s p env1 out1) (λ at env2 out2. element_tree base p at p env2 out2)))
piece_tree (Entry p base entry) env out = text_tree _ (element_tree base p (vstr entry) p env out)

pub pieces_tree : (pieces : List Piece) (text : List ℕ) → AreQuiet (pieces_run pieces text)
pieces_tree [] text env out = tree_ends text env out
pieces_tree (piece ∷ pieces) text env out = tree_do _ _ (piece_tree piece env out) (λ more env1 out1. pieces_tree pieces (text ++ more) env1 out1)
