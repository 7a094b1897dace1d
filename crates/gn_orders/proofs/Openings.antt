-- The calls that open a scope leave in order what they find in order, where their blocks and the bodies of templates do so.
use Rattle.std.proofs.Common.{ℕ, Bool, true, false, nat_lt, if◌then◌else◌, List, [], ◌∷◌, Option, Some, None, Result, Ok, Err, IfOk}
use Rattle.gn_tree.specs.declared.position.Position.{Position}
use Rattle.gn_tree.specs.declared.tree.Call.{Call}
use Rattle.gn_values.specs.Val.{Val, vstr}
use Rattle.gn_definitions.specs.Imported.{DefinitionState}
use Rattle.gn_faults.specs.declared.fault.Fault.{Fault}
use Rattle.gn_items.specs.declared.item.Item.{Item}
use Rattle.gn_rows.specs.declared.kinds.ItemKind.{ItemKind}
use Rattle.gn_rows.specs.declared.row.Row.{Row}
use Rattle.gn_rows.specs.declared.variable.Variable.{Variable}
use Rattle.gn_rows.specs.Names.{variable_name, is_target}
use Rattle.gn_rows.specs.Tables.{rows_of}
use Rattle.gn_define.specs.declared.fault.ItemFault.{ItemFault}
use Rattle.gn_define.specs.Held.{Held}
use Rattle.gn_items.specs.Effects.{Effects, is_known, with_defined}
use Rattle.gn_environment.specs.Environment.{Environment, after_read, entered, left, reported_here, with_open}
use Rattle.gn_environment.specs.Templates.{template_of, block_begins, defaults_given, at_depth, body_begins, body_ends, reported_by_invoker}
use Rattle.gn_environment.specs.Declaring.{ArgumentState, arguments_here, arguments_declared}
use Rattle.gn_meaning.specs.Steps.{Left, Steps, max_evaluation_depth}
use Rattle.gn_meaning.specs.Items.{fields_here, rows_read, item_made, defined}
use Rattle.gn_meaning.specs.Calls.{open_in, open_around, item_runs, item_end_runs, defaults_taken, scope_begun_runs, item_scope, item_scope_begun_runs}
use Rattle.gn_meaning.specs.Templates.{opened_depth, invoker_checked, template_end_runs, allows, defaults_end_runs}
use Rattle.gn_meaning.specs.Declaring.{arguments_taken, arguments_end_runs}
use Rattle.gn_functions.specs.Functions.{target_kind_of}
use Rattle.gn_meaning.specs.OpeningCalls.{Opener, of_template, of_function, Opened, opened_item, opened_template, opened_defaults, opened_arguments, template_begun_runs, item_begun_runs, template_named_runs, item_named_runs, target_kind_runs, target_of_runs, target_runs, defaults_begun_runs, begun_runs, closed_runs, opened_call_runs, valued_runs, opening_runs}
use Rattle.gn_functions.specs.declared.function.Opening.TheVariants.{Item as ItemCall, Target, SetDefaults, DeclareArguments}
use Rattle.gn_orders.specs.InOrder.{IsKeptInOrder, IsBodyInOrder, IsOrdered}
use Rattle.gn_orders.proofs.Environments.{read_keeps, entered_keeps, declaring_keeps, left_keeps, open_keeps, block_begins_keeps, defaults_given_keep, defaults_set_keep, template_so, at_depth_keeps, body_begins_keeps, body_ends_keeps}
use Rattle.gn_orders.proofs.Callers.{arguments_declared_keep}
use Rattle.gn_orders.proofs.Ends.{Keeps, IsKept, Ends, Leaves, Keep, ends_do, moved, keep_do, keep_ends, fails_so, so_if}
use Rattle.gn_orders.proofs.Steps.{checked_leaves}

-- a template that is called keeps what is in order, where this environment is so

abbrev pub IsFound : Opener → Environment → Type 0
IsFound (of_template definition depth) s = IsOrdered s → IsKeptInOrder definition
IsFound (of_function f) s = Unit {0}

-- what is open in an environment: that is in order where the first is, and so is what the template keeps

abbrev pub IsOpen : Opened → Environment → Type 0
IsOpen (opened_item kind name) s = Unit {0}
IsOpen (opened_template definition name depth) s = IsOrdered s → IsKeptInOrder definition
IsOpen (opened_defaults kind) s = Unit {0}
IsOpen opened_arguments s = Unit {0}

abbrev pub IsOpened : Environment → Left Opened → Type 0
IsOpened s l = Keeps s l.environment × IsOpen l.value s

-- Beginnings

taken_leaves : (r : Result Environment (List ℕ)) (p : Position) (begun env : Environment) (out : Effects) → IsKept begun r → Leaves begun (defaults_taken r p env out)
taken_leaves (Ok after) p begun env out h = keep_ends tt after out h
taken_leaves (Err name) p begun env out h = fails_so _ out

scope_begun_keeps : (kind name : List ℕ) (p : Position) → Keep (scope_begun_runs kind name p)
unfolding scope_begun_runs
scope_begun_keeps kind name p env out =
    moved (block_begins_keeps name env) (taken_leaves (defaults_given kind (block_begins name env)) p (block_begins name env) (block_begins name env) out (defaults_given_keep kind (block_begins name env)))

item_scope_so : (target : Bool) (name : List ℕ) (env : Environment) → Keeps env (if target then block_begins name env else entered true env)
item_scope_so true name env = block_begins_keeps name env
item_scope_so false name env = entered_keeps true env

item_scope_begun_keeps : (kind : ItemKind) (kind_name name : List ℕ) (p : Position) → Keep (item_scope_begun_runs kind kind_name name p)
unfolding item_scope_begun_runs
item_scope_begun_keeps kind kind_name name p env out =
    moved (item_scope_so (is_target kind) name env) (taken_leaves (defaults_given kind_name (item_scope kind name env)) p (item_scope kind name env) (item_scope kind name env) out (defaults_given_keep kind_name (item_scope kind name env)))

module _ (s : Environment) where
  template_begun_so : (d : DefinitionState) (depth : ℕ) (kind_name name : List ℕ) (p : Position) (env : Environment) (out : Effects) → Keeps s env → (IsOrdered s → IsKeptInOrder d) → Ends (IsOpened s) (template_begun_runs d depth kind_name name p env out)
  unfolding template_begun_runs
  template_begun_so d depth kind_name name p env out b t =
      ends_do _ _ (scope_begun_keeps kind_name name p env out) (λ l h. record { so = ((λ o. h (b o)), t) })

  item_begun_so : (kind : ItemKind) (kind_name name : List ℕ) (p : Position) (env : Environment) (out : Effects) → Keeps s env → Ends (IsOpened s) (item_begun_runs kind kind_name name p env out)
  unfolding item_begun_runs
  item_begun_so kind kind_name name p env out b =
      ends_do _ _ (item_scope_begun_keeps kind kind_name name p (with_open (open_in kind) env) out) (λ l h. record { so = ((λ o. h (open_keeps (open_in kind) env (b o))), tt) })

  template_named_so : (d : DefinitionState) (depth : ℕ) (v : Val) (call : Call) (env : Environment) (out : Effects) → Keeps s env → (IsOrdered s → IsKeptInOrder d) → Ends (IsOpened s) (template_named_runs d depth v call env out)
  template_named_so d depth (vstr name) call env out b t = template_begun_so d depth call.name name call.position env out b t
  template_named_so d depth v call env out b t = fails_so _ out

  item_named_so : (kind : ItemKind) (v : Val) (call : Call) (env : Environment) (out : Effects) → Keeps s env → Ends (IsOpened s) (item_named_runs kind v call env out)
  item_named_so kind (vstr name) call env out b = item_begun_so kind call.name name call.position env out b
  item_named_so kind v call env out b = fails_so _ out

  target_kind_so : (kind : Option ItemKind) (kind_name name : List ℕ) (call : Call) (env : Environment) (out : Effects) → Keeps s env → Ends (IsOpened s) (target_kind_runs kind kind_name name call env out)
  target_kind_so (Some kind) kind_name name call env out b =
      so_if (allows kind env) _ _ (item_begun_so kind kind_name name call.position env out b) (fails_so _ out)
  target_kind_so None kind_name name call env out b = fails_so _ out

  target_of_so : (d : Option DefinitionState) (n : ℕ) (kind_name name : List ℕ) (call : Call) (env : Environment) (out : Effects) → Keeps s env → (IsOrdered s → IsBodyInOrder d) → Ends (IsOpened s) (target_of_runs d n kind_name name call env out)
  target_of_so (Some d) n kind_name name call env out b t =
      so_if (nat_lt max_evaluation_depth (opened_depth n env)) _ _ (fails_so _ out)
      (template_begun_so d env.depth kind_name name call.position (at_depth (opened_depth n env) env) out (λ o. at_depth_keeps (opened_depth n env) env (b o)) t)
  target_of_so None n kind_name name call env out b t = target_kind_so (target_kind_of kind_name) kind_name name call env out b

  target_so : (kind v : Val) (n : ℕ) (call : Call) (env : Environment) (out : Effects) → Keeps s env → Ends (IsOpened s) (target_runs kind v n call env out)
  unfolding target_runs
  target_so (vstr kind_name) (vstr name) n call env out b =
      target_of_so (template_of kind_name env) n kind_name name call env out b (λ o. template_so kind_name env (b o))
  target_so (vstr kind_name) v n call env out b = fails_so _ out
  target_so kind v n call env out b = fails_so _ out

  defaults_begun_so : (v : Val) (call : Call) (env : Environment) (out : Effects) → Keeps s env → Ends (IsOpened s) (defaults_begun_runs v call env out)
  defaults_begun_so (vstr kind) call env out b = record { so = ((λ o. entered_keeps false env (b o)), tt) }
  defaults_begun_so v call env out b = fails_so _ out

  begun_so : (o : Opener) (vs : List Val) (n : ℕ) (call : Call) (env : Environment) (out : Effects) → Keeps s env → IsFound o s → Ends (IsOpened s) (begun_runs o vs n call env out)
  unfolding begun_runs
  begun_so (of_template d depth) (v ∷ []) n call env out b t = template_named_so d depth v call env out b t
  begun_so (of_function (ItemCall kind)) (v ∷ []) n call env out b t = item_named_so kind v call env out b
  begun_so (of_function Target) (kind ∷ v ∷ []) n call env out b t = target_so kind v n call env out b
  begun_so (of_function SetDefaults) (v ∷ []) n call env out b t = defaults_begun_so v call env out b
  begun_so (of_function DeclareArguments) [] n call env out b t = record { so = ((λ o. declaring_keeps env (b o)), tt) }
  begun_so o vs n call env out b t = fails_so _ out

-- Ends

abbrev IsDefinedInOrder : Environment → Result (Item × Environment) Fault → Type 0
IsDefinedInOrder env r = IfOk r (λ d. Keeps env d.1)

rows_read_keep : (rows : List Row) (env : Environment) → Keeps env (rows_read rows env)
rows_read_keep [] env o = o
rows_read_keep (row ∷ rows) env o = rows_read_keep rows (after_read (variable_name row.variable) env) (read_keeps (variable_name row.variable) env o)

made_keeps : (kind : ItemKind) (name : List ℕ) (p : Position) (env : Environment) (r : Result (List (Variable × Held)) ItemFault) → IsDefinedInOrder env (item_made kind name p env r)
made_keeps kind name p env (Ok fields) = rows_read_keep (rows_of kind) env
made_keeps kind name p env (Err fault) = tt

defined_keeps : (kind : ItemKind) (name : List ℕ) (p : Position) (env : Environment) → IsDefinedInOrder env (defined kind name p env)
unfolding defined
defined_keeps kind name p env = made_keeps kind name p env (fields_here kind name env)

item_leaves : (kind : ItemKind) (r : Result (Item × Environment) Fault) (p : Position) (env : Environment) (out : Effects) → IsDefinedInOrder env r → Leaves env (item_runs kind r p env out)
item_leaves kind (Err fault) p env out k = fails_so _ out
item_leaves kind (Ok d) p env out k =
    so_if (is_known kind d.0 out) _ _ (fails_so _ out)
    (checked_leaves (reported_here d.1) _ (with_open (open_around kind) (left d.1)) d.1 (with_defined kind d.0 out) (λ o. open_keeps (open_around kind) (left d.1) (left_keeps d.1 (k o))))

item_end_keeps : (kind : ItemKind) (name : List ℕ) (p : Position) → Keep (item_end_runs kind name p)
unfolding item_end_runs
item_end_keeps kind name p env out = item_leaves kind (defined kind name p env) p env out (defined_keeps kind name p env)

invoker_checked_keeps : (unread : Option (List ℕ × (List ℕ × Position))) (steps : Steps (Option Val)) → Keep steps → Keep (invoker_checked unread steps)
invoker_checked_keeps (Some unread) steps t env out = fails_so _ out
invoker_checked_keeps None steps t env out = t env out

template_end_keeps : (depth : ℕ) → Keep (template_end_runs depth)
unfolding template_end_runs
template_end_keeps depth env out =
    invoker_checked_keeps (reported_by_invoker env) _ (λ env1 out1. checked_leaves (reported_here env1) _ (at_depth depth (body_ends env1)) env1 out1 (λ o. at_depth_keeps depth (body_ends env1) (body_ends_keeps env1 o))) env out

defaults_end_keeps : (kind : List ℕ) → Keep (defaults_end_runs kind)
unfolding defaults_end_runs
defaults_end_keeps kind env out = keep_ends _ _ out (defaults_set_keep kind env)

arguments_taken_leaves : (r : Result Environment (List ℕ)) (arguments : List ArgumentState) (p : Position) (env : Environment) (out : Effects) → IsKept env r → Leaves env (arguments_taken r arguments p env out)
arguments_taken_leaves (Ok after) arguments p env out h = keep_ends _ after _ h
arguments_taken_leaves (Err name) arguments p env out h = fails_so _ out

arguments_end_keeps : (p : Position) → Keep (arguments_end_runs p)
unfolding arguments_end_runs
arguments_end_keeps p env out = arguments_taken_leaves (arguments_declared p env) (arguments_here p env) p env out (arguments_declared_keep p env)

-- The whole

-- the bodies of templates, each of which leaves in order what it finds in order
abbrev pub BodiesKeep : (DefinitionState → Position → Steps (Unit {0})) → Type 0
BodiesKeep body = (definition : DefinitionState) (p : Position) → Keep (body definition p)

module _ (body : DefinitionState → Position → Steps (Unit {0})) (b : BodiesKeep body) (block : Steps (Unit {0})) (u : Keep block) (s : Environment) where
  opened_leaves : (opened : Opened) (p : Position) (env : Environment) (out : Effects) → Keeps s env → IsOpen opened s → Leaves s (opened_call_runs body opened p block env out)
  unfolding opened_call_runs closed_runs
  opened_leaves (opened_item kind name) p env out k d = moved k (keep_do _ _ (u env out) (λ _ env1 out1. item_end_keeps kind name p env1 out1))
  opened_leaves (opened_template definition name depth) p env out k d =
      ends_do _ _ (u env out) (λ l h. ends_do _ _ (b definition p (body_begins definition name l.environment) l.effects) (λ m g. moved (λ o. g (body_begins_keeps definition name l.environment (d o) (h (k o)))) (template_end_keeps depth m.environment m.effects)))
  opened_leaves (opened_defaults kind) p env out k d = moved k (keep_do _ _ (u env out) (λ _ env1 out1. defaults_end_keeps kind env1 out1))
  opened_leaves opened_arguments p env out k d = moved k (keep_do _ _ (u env out) (λ _ env1 out1. arguments_end_keeps p env1 out1))

  valued_leaves : (o : Opener) (vs : List Val) (n : ℕ) (call : Call) (env : Environment) (out : Effects) → Keeps s env → IsFound o s → Leaves s (valued_runs body o vs n call block env out)
  unfolding valued_runs
  valued_leaves o vs n call env out k t =
      ends_do _ _ (begun_so s o vs n call env out k t) (λ l d. opened_leaves l.value call.position l.environment l.effects d.0 d.1)

  pub opening_leaves : (o : Opener) (n : ℕ) (call : Call) (values : Steps (List Val)) → Keep values → (env : Environment) (out : Effects) → Keeps s env → IsFound o s → Leaves s (opening_runs body o n call values block env out)
  unfolding opening_runs
  opening_leaves o n call values v env out k t =
      ends_do _ _ (v env out) (λ l h. valued_leaves o l.value n call l.environment l.effects (λ q. h (k q)) t)
