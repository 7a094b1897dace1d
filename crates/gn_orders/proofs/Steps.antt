-- The steps of an evaluation leave in order what they find in order: a line for each case.
use Rattle.std.proofs.Common.{◌≡◌, ℕ, Bool, true, false, ◌&&◌, ◌++◌, List, [], ◌∷◌, Option, Some, None, Result, Ok, Err, refl}
use Rattle.gn_tree.specs.declared.position.Position.{Position}
use Rattle.gn_tree.specs.declared.operator.AssignOp.{AssignOp}
use Rattle.gn_tree.specs.declared.piece.Piece.{Piece}
use Rattle.gn_tree.specs.declared.piece.Piece.TheVariants.{Bytes, Name, Item as ItemPiece, Entry}
use Rattle.gn_tree.specs.declared.piece.Subscript.{Subscript}
use Rattle.gn_tree.specs.declared.piece.Subscript.TheVariants.{Name as NameSubscript, Integer}
use Rattle.gn_values.specs.Val.{Val, vbool, vstr, vlist, vscope, list_of, binds_of}
use Rattle.gn_values.specs.declared.error.ValueError.{ValueError}
use Rattle.gn_values.specs.declared.error.ElementError.{ElementError}
use Rattle.gn_values.specs.declared.error.ElementError.TheVariants as element_error
use Rattle.gn_values.specs.Limits.{list_fits, scope_fits, text_fits}
use Rattle.gn_items.specs.Effects.{Effects, with_print, with_written}
use Rattle.gn_runs.specs.Runs.{Run}
use Rattle.gn_environment.specs.Environment.{Environment, value_of, entries_here, entered, restored, given, variable_here, after_assignment, after_assignment_over, after_element_assignment, after_element_assignment_over}
use Rattle.gn_environment.specs.Invoker.{names_invoker, is_invoker_here, invoker_entries, invoker_entry}
use Rattle.gn_environment.specs.Assigning.{replaces, Refusal, replaces_nonempty, has_no_value, operator_refuses, ElementRefusal, base_has_no_value, element_refuses}
use Rattle.gn_meaning.specs.Steps.{Left, Steps}
use Rattle.gn_meaning.specs.Words.{value_or_fault, element_or_fault, value_or_undefined, invoker_runs, name_runs, element_of_base, entry_or_undefined, invoker_element_runs, element_runs, base_runs, negation_runs, boolean_runs, list_runs, scope_runs, string_runs, assigned_to, element_fault, element_assigned_to, changes_value, over_invoker, invoker_replaced_runs, name_assigned_runs, variable_element_assigned_runs, invoker_element_assigned_runs, element_assigned_runs}
use Rattle.gn_meaning.specs.Pieces.{subscript_runs, text_runs, piece_runs, pieces_run}
use Rattle.gn_tree.specs.declared.tree.Call.{Call}
use Rattle.gn_orders.proofs.Environments.{Keeps, IsKept, read_keeps, assignment_keeps, assignment_over_keeps, element_keeps as element_assignment_keeps, element_over_keeps, entered_keeps, left_keeps, restored_keeps, given_keeps}
use Rattle.gn_orders.proofs.Callers.{invoker_entry_read_keeps, invoker_read_keeps}
use Rattle.gn_meaning.specs.Calls.{has_entry_of, has_invoker_entry_runs, has_entry_runs, has_value_runs, turns_run, loop_runs, checked_end, call_value_runs}
use Rattle.gn_meaning.specs.PlainCalls.{Settled, gives, gives_nothing, prints, writes, refuses, refuses_values, answer, settled_runs, plain_runs}
use Rattle.gn_functions.specs.declared.function.Plain.{Plain}
use Rattle.gn_orders.proofs.Ends.{Leaves, Keep, moved, keep_do, keep_ends, fails_so, so_if}

-- Values and names

pub value_keeps : (r : Result Val ValueError) (p : Position) → Keep (value_or_fault r p)
value_keeps (Ok v) p env out = keep_ends v env out (λ o. o)
value_keeps (Err e) p env out = fails_so _ out

element_or_fault_keeps : (r : Result Val ValueError) (at : Val) (p : Position) → Keep (element_or_fault r at p)
element_or_fault_keeps (Ok v) at p env out = keep_ends v env out (λ o. o)
element_or_fault_keeps (Err e) at p env out = fails_so _ out

value_or_undefined_keeps : (v : Option Val) (name : List ℕ) (p : Position) → Keep (value_or_undefined v name p)
value_or_undefined_keeps (Some v) name p env out = keep_ends _ _ _ (read_keeps name env)
value_or_undefined_keeps None name p env out = fails_so _ out

invoker_keeps : (p : Position) → Keep (invoker_runs p)
unfolding invoker_runs
invoker_keeps p env out = so_if (scope_fits (invoker_entries env)) _ _ (keep_ends _ _ out (invoker_read_keeps env)) (fails_so _ out)

pub name_keeps : (name : List ℕ) (p : Position) → Keep (name_runs name p)
unfolding name_runs
name_keeps name p env out = so_if (names_invoker name env) _ _ (invoker_keeps p env out) (value_or_undefined_keeps (value_of name env) name p env out)

element_of_base_keeps : (v : Option Val) (base : List ℕ) (q : Position) (at : Val) (p : Position) → Keep (element_of_base v base q at p)
element_of_base_keeps (Some v) base q at p env out = moved (read_keeps base env) (element_or_fault_keeps _ at p _ out)
element_of_base_keeps None base q at p env out = fails_so _ out

entry_keeps : (v : Option Val) (name : List ℕ) (p : Position) → Keep (entry_or_undefined v name p)
entry_keeps (Some v) name p env out = keep_ends _ _ _ (invoker_entry_read_keeps name env)
entry_keeps None name p env out = fails_so _ out

invoker_element_keeps : (at : Val) (p : Position) → Keep (invoker_element_runs at p)
unfolding invoker_element_runs
invoker_element_keeps (vstr name) p env out = entry_keeps (invoker_entry name env) name p env out
invoker_element_keeps at p env out = fails_so _ out

pub element_keeps : (base : List ℕ) (q : Position) (at : Val) (p : Position) → Keep (element_runs base q at p)
unfolding element_runs
element_keeps base q at p env out =
    so_if (names_invoker base env) _ _ (invoker_element_keeps at p env out) (element_of_base_keeps (value_of base env) base q at p env out)

pub base_keeps : (base : List ℕ) (p : Position) → Keep (base_runs base p)
unfolding base_runs
base_keeps base p env out = by (names_invoker base env) refl (value_of base env) refl
  where
    by : (b : Bool) → names_invoker base env ≡ b → (v : Option Val) → value_of base env ≡ v → Leaves env (base_runs base p env out)
    by true d v e = rw d (keep_ends _ _ _ (λ o. o))
    by false d (Some v) e = rw (d, e) (keep_ends _ _ _ (read_keeps base env))
    by false d None e = rw (d, e) (fails_so _ out)

pub negation_keeps : (v : Val) (p : Position) → Keep (negation_runs v p)
unfolding negation_runs
negation_keeps (vbool b) p env out = keep_ends _ env out (λ o. o)
negation_keeps v p env out = fails_so _ out

pub boolean_keeps : (v : Val) (p : Position) → Keep (boolean_runs v p)
unfolding boolean_runs
boolean_keeps (vbool b) p env out = keep_ends _ env out (λ o. o)
boolean_keeps v p env out = fails_so _ out

pub list_keeps : (vs : List Val) (p : Position) → Keep (list_runs vs p)
unfolding list_runs
list_keeps vs p env out = so_if (list_fits vs) _ _ (keep_ends _ env out (λ o. o)) (fails_so _ out)

-- the end of a scope that is written out
pub scope_leaves : (p : Position) (env after : Environment) (out : Effects) → Keeps (entered false env) after → Leaves env (scope_runs p after out)
unfolding scope_runs
scope_leaves p env after out h = so_if (scope_fits (entries_here after)) _ _ (keep_ends _ _ out (λ o. left_keeps after (h (entered_keeps false env o)))) (fails_so _ out)

pub string_keeps : (text : List ℕ) (p : Position) → Keep (string_runs text p)
unfolding string_runs
string_keeps text p env out = so_if (text_fits text) _ _ (keep_ends _ env out (λ o. o)) (fails_so _ out)

-- Assignments

assigned_keeps : (r : Result Environment Refusal) (name : List ℕ) (at p : Position) (env : Environment) (out : Effects) → IsKept env r → Leaves env (assigned_to r name at p env out)
unfolding assigned_to
assigned_keeps (Ok after) name at p env out h = keep_ends tt after out h
assigned_keeps (Err replaces_nonempty) name at p env out h = fails_so _ out
assigned_keeps (Err has_no_value) name at p env out h = fails_so _ out
assigned_keeps (Err (operator_refuses e)) name at p env out h = fails_so _ out

element_fault_keeps : (e : ElementError) (at : Val) (p q : Position) → Keep (element_fault e at p q)
element_fault_keeps (element_error.Subscript e) at p q env out = fails_so _ out
element_fault_keeps (element_error.Operator e) at p q env out = fails_so _ out
element_fault_keeps element_error.Memory at p q env out = fails_so _ out

element_assigned_keeps : (r : Result Environment ElementRefusal) (name : List ℕ) (base : Position) (at : Val) (p q : Position) (env : Environment) (out : Effects) → IsKept env r → Leaves env (element_assigned_to r name base at p q env out)
unfolding element_assigned_to
element_assigned_keeps (Ok after) name base at p q env out h = keep_ends tt after out h
element_assigned_keeps (Err base_has_no_value) name base at p q env out h = fails_so _ out
element_assigned_keeps (Err (element_refuses e)) name base at p q env out h = element_fault_keeps e at p q env out

over_invoker_keeps : (p : Position) (next : Val → Environment → Run (Left (Unit {0}))) (env : Environment) (out : Effects) → ((v : Val) (after : Environment) → Leaves after (next v after)) → Leaves env (over_invoker p next env out)
over_invoker_keeps p next env out t = so_if (scope_fits (invoker_entries env)) _ _ (moved (invoker_read_keeps env) (t _ _)) (fails_so _ out)

invoker_replaced_keeps : (name : List ℕ) (p : Position) (v : Val) → Keep (invoker_replaced_runs name p v)
unfolding invoker_replaced_runs
invoker_replaced_keeps name p v env out =
    so_if (replaces (vscope (binds_of (invoker_entries env))) v) _ _ (fails_so _ out) (keep_ends _ _ out (given_keeps name v env))

pub name_assigned_keeps : (name : List ℕ) (at : Position) (op : AssignOp) (p : Position) (v : Val) → Keep (name_assigned_runs name at op p v)
unfolding name_assigned_runs
name_assigned_keeps name at op p v env out =
    so_if (changes_value op && names_invoker name env) _ _
    (over_invoker_keeps p _ env out (λ old env1. assigned_keeps (after_assignment_over old name op v p env1) name at p env1 out (assignment_over_keeps old name op v p env1)))
    (so_if (is_invoker_here name env) _ _ (invoker_replaced_keeps name p v env out) (assigned_keeps (after_assignment name op v p env) name at p env out (assignment_keeps name op v p env)))

variable_element_keeps : (base : List ℕ) (base_position : Position) (at : Val) (q : Position) (op : AssignOp) (p : Position) (v : Val) → Keep (variable_element_assigned_runs base base_position at q op p v)
unfolding variable_element_assigned_runs
variable_element_keeps base base_position at q op p v env out =
    element_assigned_keeps (after_element_assignment base at op v p env) base base_position at q p env out (element_assignment_keeps base at op v p env)

invoker_element_assigned_keeps : (old : Val) (base : List ℕ) (base_position : Position) (at : Val) (q : Position) (op : AssignOp) (p : Position) (v : Val) → Keep (invoker_element_assigned_runs old base base_position at q op p v)
unfolding invoker_element_assigned_runs
invoker_element_assigned_keeps old base base_position at q op p v env out =
    so_if (is_invoker_here base env) _ _ (moved (given_keeps base old env) (variable_element_keeps base base_position at q op p v _ out))
    (element_assigned_keeps (after_element_assignment_over old base at op v p env) base base_position at q p env out (element_over_keeps old base at op v p env))

pub element_changed_keeps : (base : List ℕ) (base_position : Position) (at : Val) (q : Position) (op : AssignOp) (p : Position) (v : Val) → Keep (element_assigned_runs base base_position at q op p v)
unfolding element_assigned_runs
element_changed_keeps base base_position at q op p v env out =
    so_if (names_invoker base env) _ _ (over_invoker_keeps p _ env out (λ old env1. invoker_element_assigned_keeps old base base_position at q op p v env1 out))
    (variable_element_keeps base base_position at q op p v env out)

-- Strings

subscript_keeps : (s : Subscript) (p : Position) → Keep (subscript_runs s p)
subscript_keeps (NameSubscript name) p env out = name_keeps name p env out
subscript_keeps (Integer n) p env out = keep_ends _ env out (λ o. o)

text_keeps : {s : Environment} (m : Run (Left Val)) → Leaves s m → Leaves s (text_runs m)
text_keeps m t = keep_do _ _ t (λ v env out. keep_ends _ env out (λ o. o))

piece_keeps : (piece : Piece) → Keep (piece_runs piece)
unfolding piece_runs
piece_keeps (Bytes text) env out = keep_ends text env out (λ o. o)
piece_keeps (Name p name) env out = text_keeps _ (name_keeps name p env out)
piece_keeps (ItemPiece p base s) env out =
    text_keeps _ (keep_do _ _ (base_keeps base p env out) (λ _ env1 out1. keep_do _ _ (subscript_keeps s p env1 out1) (λ at env2 out2. element_keeps base p at p env2 out2)))
piece_keeps (Entry p base entry) env out = text_keeps _ (element_keeps base p (vstr entry) p env out)

pub pieces_keep : (pieces : List Piece) (text : List ℕ) → Keep (pieces_run pieces text)
pieces_keep [] text env out = keep_ends text env out (λ o. o)
pieces_keep (piece ∷ pieces) text env out = keep_do _ _ (piece_keeps piece env out) (λ more env1 out1. pieces_keep pieces (text ++ more) env1 out1)

-- Single calls

has_entry_of_keeps : (v : Option Val) (base : List ℕ) (at : Val) (p : Position) → Keep (has_entry_of v base at p)
has_entry_of_keeps (Some (vscope bs)) base (vstr name) p env out = keep_ends _ _ out (read_keeps base env)
has_entry_of_keeps (Some v) base at p env out = fails_so _ out
has_entry_of_keeps None base at p env out = fails_so _ out

has_invoker_entry_keeps : (at : Val) (p : Position) → Keep (has_invoker_entry_runs at p)
has_invoker_entry_keeps (vstr name) p env out = keep_ends _ _ out (invoker_entry_read_keeps name env)
has_invoker_entry_keeps at p env out = fails_so _ out

pub has_entry_keeps : (base : List ℕ) (at : Val) (p : Position) → Keep (has_entry_runs base at p)
unfolding has_entry_runs
has_entry_keeps base at p env out =
    so_if (names_invoker base env) _ _ (has_invoker_entry_keeps at p env out) (has_entry_of_keeps (value_of base env) base at p env out)

pub has_value_keeps : (name : List ℕ) → Keep (has_value_runs name)
unfolding has_value_runs
has_value_keeps name env out = so_if (names_invoker name env) _ _ (keep_ends _ _ out (λ o. o)) (keep_ends _ _ out (read_keeps name env))

turns_keep : (name : List ℕ) (block : Steps (Unit {0})) → Keep block → (vs : List Val) → Keep (turns_run name block vs)
turns_keep name block t [] env out = keep_ends tt env out (λ o. o)
turns_keep name block t (v ∷ vs) env out =
    keep_do _ _ (moved (given_keeps name v env) (t (given name v env) out)) (λ _ env1 out1. turns_keep name block t vs env1 out1)

pub loop_keeps : (name : List ℕ) (v : Val) (at : Position) (block : Steps (Unit {0})) → Keep block → Keep (loop_runs name v at block)
unfolding loop_runs
loop_keeps name (vlist vs) at block t env out =
    keep_do _ _ (moved (restored_keeps name None env) (turns_keep name block t (list_of vs) (restored name None env) out))
    (λ _ env1 out1. keep_ends _ _ out1 (restored_keeps name (variable_here name env) env1))
loop_keeps name v at block t env out = fails_so _ out

pub checked_leaves : {A : Type 0} {s : Environment} (unread : Option (List ℕ × Position)) (x : A) (after env : Environment) (out : Effects) → Keeps s after → Leaves s (checked_end unread x after env out)
checked_leaves (Some unread) x after env out h = fails_so _ out
checked_leaves None x after env out h = keep_ends x after out h

pub call_value_keeps : (v : Option Val) (p : Position) → Keep (call_value_runs v p)
unfolding call_value_runs
call_value_keeps (Some v) p env out = keep_ends v env out (λ o. o)
call_value_keeps None p env out = fails_so _ out

pub settled_keeps : (s : Settled) (call : Call) → Keep (settled_runs s call)
unfolding settled_runs with_print with_written
settled_keeps (gives v) call env out = keep_ends _ env out (λ o. o)
settled_keeps gives_nothing call env out = keep_ends _ env out (λ o. o)
settled_keeps (prints line) call env out = keep_ends _ env _ (λ o. o)
settled_keeps (writes path bytes) call env out = keep_ends _ env _ (λ o. o)
settled_keeps (refuses c number detail) call env out = fails_so _ out
settled_keeps refuses_values call env out = fails_so _ out

pub plain_keeps : (f : Plain) (vs : List Val) (call : Call) → Keep (plain_runs f vs call)
plain_keeps f vs call env out = settled_keeps (answer f env.setting out.items vs) call env out
