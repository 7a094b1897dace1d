-- What single calls do once their arguments are evaluated.
use Rattle.std.specs.Prelude.{ℕ, true, List, [], ◌∷◌, if◌then◌else◌, Option, Some, None, Result, Ok, Err, is_some}
use Rattle.gn_tree.specs.declared.position.Position.{Position}
use Rattle.gn_values.specs.Val.{Val, vbool, vstr, vlist, vscope, list_of, entries_of}
use Rattle.gn_values.specs.Operators.{value_at}
use Rattle.gn_faults.specs.declared.code.Code.TheVariants as code
use Rattle.gn_faults.specs.declared.fault.Fault.{Fault}
use Rattle.gn_labels.specs.declared.label.Label.{Label}
use Rattle.gn_items.specs.declared.item.Item.{Item}
use Rattle.gn_rows.specs.declared.kinds.ItemKind.{ItemKind}
use Rattle.gn_rows.specs.declared.kinds.ItemKind.TheVariants as kinds
use Rattle.gn_rows.specs.Names.{is_target}
use Rattle.gn_items.specs.Effects.{is_known, with_defined}
use Rattle.gn_environment.specs.declared.context.OpenBlock.{OpenBlock}
use Rattle.gn_environment.specs.declared.context.OpenBlock.TheVariants as block
use Rattle.gn_environment.specs.Environment.{Setting, Environment, value_of, after_read, left, reported_here, variable_here, restored, given, entered, with_open}
use Rattle.gn_environment.specs.Templates.{block_begins, defaults_given}
use Rattle.gn_environment.specs.Invoker.{names_invoker, invoker_entry, after_invoker_entry_read}
use Rattle.gn_meaning.specs.Steps.{Steps, then_do, ends, breaks}
use Rattle.gn_meaning.specs.Words.{fails_at}
use Rattle.gn_meaning.specs.Items.{defined, label_text}

-- `defined(a.b)` and `defined(a[s])`: the base has to be a scope, the subscript a string
abbrev pub has_entry_of : Option Val → List ℕ → Val → Position → Steps (Option Val)
has_entry_of (Some (vscope bs)) base (vstr name) position env out = ends (Some (vbool (is_some (value_at name (entries_of bs))))) (after_read base env) out
has_entry_of (Some _) base at position env out = fails_at code.BadTypes position [] env out
has_entry_of None base at position env out = fails_at code.Undefined position (base ∷ []) env out

-- the same at the invoker: this name alone is read
abbrev pub has_invoker_entry_runs : Val → Position → Steps (Option Val)
has_invoker_entry_runs (vstr name) position env out = ends (Some (vbool (is_some (invoker_entry name env)))) (after_invoker_entry_read name env) out
has_invoker_entry_runs _ position env out = fails_at code.BadTypes position [] env out

unfoldable pub has_entry_runs : List ℕ → Val → Position → Steps (Option Val)
has_entry_runs base at position env out =
    if names_invoker base env then has_invoker_entry_runs at position env out else has_entry_of (value_of base env) base at position env out

-- `defined(name)`: the name is read, but the invoker is no name that is read by this
unfoldable pub has_value_runs : List ℕ → Steps (Option Val)
has_value_runs name env out =
    if names_invoker name env then ends (Some (vbool true)) env out
    else ends (Some (vbool (is_some (value_of name env)))) (after_read name env) out

-- the rounds of a `foreach`: in each the name is given the next item
abbrev pub turns_run : List ℕ → Steps (Unit {0}) → List Val → Steps (Unit {0})
turns_run name block [] env out = ends tt env out
turns_run name block (v ∷ vs) env out = then_do (block (given name v env) out) (λ _ env1 out1. turns_run name block vs env1 out1)

-- `foreach`: what the innermost scope has at the name is put aside, and comes back behind the last round
unfoldable pub loop_runs : List ℕ → Val → Position → Steps (Unit {0}) → Steps (Option Val)
loop_runs name (vlist vs) at block env out =
    then_do (turns_run name block (list_of vs) (restored name None env) out) (λ _ env1 out1. ends None (restored name (variable_here name env) env1) out1)
loop_runs name _ at block env out = fails_at code.BadTypes at [] env out

-- the end of a checked scope
abbrev pub checked_end : {A : Type 0} → Option (List ℕ × Position) → A → Environment → Steps A
checked_end (Some unread) x after env out = fails_at code.NoEffect unread.1 (unread.0 ∷ []) env out
checked_end None x after env out = ends x after out

-- the block that is open while that of an item of this kind runs, and the one that stands around it
abbrev pub open_in : ItemKind → OpenBlock
open_in kinds.Toolchain = block.Toolchain
open_in kinds.Tool = block.Tool
open_in _ = block.Item

abbrev pub open_around : ItemKind → OpenBlock
open_around kinds.Tool = block.Toolchain
open_around _ = block.Nothing

-- by what an item is known that has been defined: a tool by its name, and all else by its label
abbrev pub known_by : ItemKind → Setting → Label → List ℕ
known_by kinds.Tool setting label = label.name
known_by _ setting label = label_text setting label

-- the end of an item's block: the item is defined, then it has to be new, then its names have to be read
abbrev pub item_runs : ItemKind → Result (Item × Environment) Fault → Position → Steps (Option Val)
item_runs kind (Err fault) position env out = breaks fault out
item_runs kind (Ok d) position env out =
    if is_known kind d.0 out then fails_at code.DuplicateItem position (known_by kind d.1.setting d.0.label ∷ []) d.1 out
    else checked_end (reported_here d.1) None (with_open (open_around kind) (left d.1)) d.1 (with_defined kind d.0 out)

unfoldable pub item_end_runs : ItemKind → List ℕ → Position → Steps (Option Val)
item_end_runs kind name position env out = item_runs kind (defined kind name position env) position env out

-- the scope in which the block of a call begins: it has the name that is given, and the defaults for calls of this kind
abbrev pub defaults_taken : Result Environment (List ℕ) → Position → Steps (Unit {0})
defaults_taken (Ok after) position env out = ends tt after out
defaults_taken (Err name) position env out = fails_at code.AlreadySet position (name ∷ []) env out

abbrev pub defaults_given_runs : List ℕ → Position → Steps (Unit {0})
defaults_given_runs kind position env out = defaults_taken (defaults_given kind env) position env out

unfoldable pub scope_begun_runs : List ℕ → List ℕ → Position → Steps (Unit {0})
scope_begun_runs kind name position env out = defaults_given_runs kind position (block_begins name env) out

-- the same of the block of an item: that of a target alone has the name
abbrev pub item_scope : ItemKind → List ℕ → Environment → Environment
item_scope kind name env = if is_target kind then block_begins name env else entered true env

unfoldable pub item_scope_begun_runs : ItemKind → List ℕ → List ℕ → Position → Steps (Unit {0})
item_scope_begun_runs kind kind_name name position env out = defaults_given_runs kind_name position (item_scope kind name env) out

-- the value of a call inside an expression
unfoldable pub call_value_runs : Option Val → Position → Steps Val
call_value_runs (Some v) position env out = ends v env out
call_value_runs None position env out = fails_at code.BadTypes position [] env out
