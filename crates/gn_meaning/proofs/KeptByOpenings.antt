-- What the calls that open a scope leave around the scope in which they stand, where their blocks and the bodies of templates do so.
use Rattle.std.proofs.Common.{◌≡◌, ℕ, Bool, true, false, nat_lt, if◌then◌else◌, List, [], ◌∷◌, Option, Some, None, Result, Ok, Err, IfOk, refl, sym, ◌∙◌, true≢false}
use Rattle.gn_tree.specs.declared.position.Position.{Position}
use Rattle.gn_tree.specs.declared.tree.Call.{Call}
use Rattle.gn_values.specs.Val.{Val, vstr}
use Rattle.gn_definitions.specs.Imported.{DefinitionState}
use Rattle.gn_faults.specs.declared.fault.Fault.{Fault}
use Rattle.gn_items.specs.declared.item.Item.{Item}
use Rattle.gn_rows.specs.declared.kinds.ItemKind.{ItemKind}
use Rattle.gn_rows.specs.declared.kinds.ItemKind.TheVariants as kinds
use Rattle.gn_rows.specs.declared.row.Row.{Row}
use Rattle.gn_rows.specs.declared.variable.Variable.{Variable}
use Rattle.gn_rows.specs.Names.{variable_name, is_target}
use Rattle.gn_rows.specs.Tables.{rows_of}
use Rattle.gn_define.specs.declared.fault.ItemFault.{ItemFault}
use Rattle.gn_define.specs.Held.{Held}
use Rattle.gn_items.specs.Effects.{Effects, is_known, with_defined}
use Rattle.gn_environment.specs.declared.context.OpenBlock.{OpenBlock}
use Rattle.gn_environment.specs.declared.context.OpenBlock.TheVariants as block
use Rattle.gn_environment.specs.Environment.{Environment, after_read, entered, left, reported_here, with_open}
use Rattle.gn_environment.specs.Templates.{template_of, block_begins, defaults_given, at_depth, body_begins, body_ends, reported_by_invoker}
use Rattle.gn_environment.specs.Surroundings.{surroundings}
use Rattle.gn_environment.specs.Declaring.{declaring_entered, ArgumentState, arguments_here, arguments_declared}
use Rattle.gn_environment.proofs.Surroundings.{IsKept, read_keeps, left_keeps, defaults_given_keep, block_begins_so, defaults_set_keep, at_depth_keeps, depth_again, body_ends_keep}
use Rattle.gn_environment.proofs.SurroundingsOfCalls.{block_ends, same_open, arguments_declared_keep}
use Rattle.gn_meaning.specs.Steps.{Left, Steps, max_evaluation_depth}
use Rattle.gn_meaning.specs.Items.{fields_here, rows_read, item_made, defined}
use Rattle.gn_meaning.specs.Calls.{open_in, open_around, item_runs, item_end_runs, defaults_taken, scope_begun_runs, item_scope, item_scope_begun_runs}
use Rattle.gn_meaning.specs.Templates.{opened_depth, invoker_checked, template_end_runs, is_build_file, is_inside, allows_items, is_toolchain, allows, defaults_end_runs}
use Rattle.gn_meaning.specs.Declaring.{arguments_taken, arguments_end_runs}
use Rattle.gn_functions.specs.Functions.{target_kind_of}
use Rattle.gn_meaning.specs.OpeningCalls.{Opener, of_template, of_function, Opened, opened_item, opened_template, opened_defaults, opened_arguments, template_begun_runs, item_begun_runs, template_named_runs, item_named_runs, target_kind_runs, target_of_runs, target_runs, defaults_begun_runs, begun_runs, closed_runs, opened_call_runs, valued_runs, opening_runs}
use Rattle.gn_functions.specs.declared.function.Opening.TheVariants.{Item as ItemCall, Target, SetDefaults, DeclareArguments}
use Rattle.gn_meaning.proofs.Ends.{Ends, Leaves, Keep, ends_do, moved, keep_ends, fails_so, so_if}
use Rattle.gn_meaning.proofs.KeptBySteps.{checked_leaves}

-- How a call begins, of which these surroundings are to be left: a template's call is open already, and has the depth before it

abbrev pub Before : Opener → Environment → Environment → Type 0
Before (of_template definition depth) s env = surroundings (at_depth depth env) ≡ s
Before (of_function (ItemCall kind)) s env = (surroundings env ≡ s) × (env.setting.inside ≡ open_around kind)
Before (of_function Target) s env = surroundings env ≡ s
Before (of_function SetDefaults) s env = surroundings env ≡ s
Before (of_function DeclareArguments) s env = surroundings env ≡ s

pub before_moved : (o : Opener) (s env after : Environment) → surroundings after ≡ surroundings env → Before o s env → Before o s after
before_moved (of_template definition depth) s env after h b = at_depth_keeps depth env after h ∙ b
before_moved (of_function (ItemCall kind)) s env after h b = (h ∙ b.0, same_open env after h ∙ b.1)
before_moved (of_function Target) s env after h b = h ∙ b
before_moved (of_function SetDefaults) s env after h b = h ∙ b
before_moved (of_function DeclareArguments) s env after h b = h ∙ b

-- what stands around while the block of the call runs

abbrev pub During : Opened → Environment → Environment → Type 0
During (opened_item kind name) s env = (env0 : Environment) × (surroundings env0 ≡ s) × (env0.setting.inside ≡ open_around kind) × (surroundings env ≡ surroundings (entered true (with_open (open_in kind) env0)))
During (opened_template definition name depth) s env = (env0 : Environment) × (surroundings (at_depth depth env0) ≡ s) × (surroundings env ≡ surroundings (entered true env0))
During (opened_defaults kind) s env = (env0 : Environment) × (surroundings env0 ≡ s) × (surroundings env ≡ surroundings (entered false env0))
During opened_arguments s env = (env0 : Environment) × (surroundings env0 ≡ s) × (surroundings env ≡ surroundings (declaring_entered env0))

abbrev pub IsOpened : Environment → Left Opened → Type 0
IsOpened s l = During l.value s l.environment

-- Beginnings

taken_leaves : (r : Result Environment (List ℕ)) (p : Position) (begun env : Environment) (out : Effects) → IsKept begun r → Leaves (surroundings begun) (defaults_taken r p env out)
taken_leaves (Ok after) p begun env out h = keep_ends tt after out h
taken_leaves (Err name) p begun env out h = fails_so _ out

scope_begun_leaves : (kind name : List ℕ) (p : Position) (env : Environment) (out : Effects) → Leaves (surroundings (entered true env)) (scope_begun_runs kind name p env out)
unfolding scope_begun_runs
scope_begun_leaves kind name p env out =
    moved (block_begins_so name env) (taken_leaves (defaults_given kind (block_begins name env)) p (block_begins name env) (block_begins name env) out (defaults_given_keep kind (block_begins name env)))

item_scope_so : (target : Bool) (name : List ℕ) (env : Environment) → surroundings (if target then block_begins name env else entered true env) ≡ surroundings (entered true env)
item_scope_so true name env = block_begins_so name env
item_scope_so false name env = refl

item_scope_begun_leaves : (kind : ItemKind) (kind_name name : List ℕ) (p : Position) (env : Environment) (out : Effects) → Leaves (surroundings (entered true env)) (item_scope_begun_runs kind kind_name name p env out)
unfolding item_scope_begun_runs
item_scope_begun_leaves kind kind_name name p env out =
    moved (item_scope_so (is_target kind) name env) (taken_leaves (defaults_given kind_name (item_scope kind name env)) p (item_scope kind name env) (item_scope kind name env) out (defaults_given_keep kind_name (item_scope kind name env)))

template_begun_so : (s : Environment) (d : DefinitionState) (depth : ℕ) (kind_name name : List ℕ) (p : Position) (env : Environment) (out : Effects) → surroundings (at_depth depth env) ≡ s → Ends (IsOpened s) (template_begun_runs d depth kind_name name p env out)
unfolding template_begun_runs
template_begun_so s d depth kind_name name p env out b =
    ends_do _ _ (scope_begun_leaves kind_name name p env out) (λ l h. record { so = (env, b, h) })

item_begun_so : (s : Environment) (kind : ItemKind) (kind_name name : List ℕ) (p : Position) (env : Environment) (out : Effects) → surroundings env ≡ s → env.setting.inside ≡ open_around kind → Ends (IsOpened s) (item_begun_runs kind kind_name name p env out)
unfolding item_begun_runs
item_begun_so s kind kind_name name p env out b e =
    ends_do _ _ (item_scope_begun_leaves kind kind_name name p (with_open (open_in kind) env) out) (λ l h. record { so = (env, b, e, h) })

template_named_so : (s : Environment) (d : DefinitionState) (depth : ℕ) (v : Val) (call : Call) (env : Environment) (out : Effects) → surroundings (at_depth depth env) ≡ s → Ends (IsOpened s) (template_named_runs d depth v call env out)
template_named_so s d depth (vstr name) call env out b = template_begun_so s d depth call.name name call.position env out b
template_named_so s d depth v call env out b = fails_so _ out

item_named_so : (s : Environment) (kind : ItemKind) (v : Val) (call : Call) (env : Environment) (out : Effects) → surroundings env ≡ s → env.setting.inside ≡ open_around kind → Ends (IsOpened s) (item_named_runs kind v call env out)
item_named_so s kind (vstr name) call env out b e = item_begun_so s kind call.name name call.position env out b e
item_named_so s kind v call env out b e = fails_so _ out

-- where items are allowed, no block is open that says what may be called in it
nothing_inside : (inside : OpenBlock) (r : Bool) → (if is_inside inside then false else r) ≡ true → inside ≡ block.Nothing
nothing_inside block.Nothing r h = refl
nothing_inside block.Item r h = absurd (true≢false (sym h))
nothing_inside block.Toolchain r h = absurd (true≢false (sym h))
nothing_inside block.Tool r h = absurd (true≢false (sym h))

nothing_open : (env : Environment) → allows_items env ≡ true → env.setting.inside ≡ block.Nothing
nothing_open env h = nothing_inside env.setting.inside (is_build_file env.setting.kind) h

-- a tool's block opens in a toolchain's
toolchain_inside : (inside : OpenBlock) → is_toolchain inside ≡ true → inside ≡ block.Toolchain
toolchain_inside block.Toolchain h = refl
toolchain_inside block.Nothing h = absurd (true≢false (sym h))
toolchain_inside block.Item h = absurd (true≢false (sym h))
toolchain_inside block.Tool h = absurd (true≢false (sym h))

pub is_open_around : (kind : ItemKind) (env : Environment) → allows kind env ≡ true → env.setting.inside ≡ open_around kind
is_open_around kinds.Tool env h = toolchain_inside env.setting.inside h
is_open_around kind env h = nothing_open env h

target_kind_so : (s : Environment) (kind : Option ItemKind) (kind_name name : List ℕ) (call : Call) (env : Environment) (out : Effects) → surroundings env ≡ s → Ends (IsOpened s) (target_kind_runs kind kind_name name call env out)
target_kind_so s (Some kind) kind_name name call env out b = by (allows kind env) refl
  where
    by : (r : Bool) → allows kind env ≡ r → Ends (IsOpened s) (target_kind_runs (Some kind) kind_name name call env out)
    by true e = rw e (item_begun_so s kind kind_name name call.position env out b (is_open_around kind env e))
    by false e = rw e (fails_so _ out)
target_kind_so s None kind_name name call env out b = fails_so _ out

target_of_so : (s : Environment) (d : Option DefinitionState) (n : ℕ) (kind_name name : List ℕ) (call : Call) (env : Environment) (out : Effects) → surroundings env ≡ s → Ends (IsOpened s) (target_of_runs d n kind_name name call env out)
target_of_so s (Some d) n kind_name name call env out b =
    so_if (nat_lt max_evaluation_depth (opened_depth n env)) _ _ (fails_so _ out)
    (template_begun_so s d env.depth kind_name name call.position (at_depth (opened_depth n env) env) out (depth_again (opened_depth n env) env ∙ b))
target_of_so s None n kind_name name call env out b = target_kind_so s (target_kind_of kind_name) kind_name name call env out b

target_so : (s : Environment) (kind v : Val) (n : ℕ) (call : Call) (env : Environment) (out : Effects) → surroundings env ≡ s → Ends (IsOpened s) (target_runs kind v n call env out)
unfolding target_runs
target_so s (vstr kind_name) (vstr name) n call env out b = target_of_so s (template_of kind_name env) n kind_name name call env out b
target_so s (vstr kind_name) v n call env out b = fails_so _ out
target_so s kind v n call env out b = fails_so _ out

defaults_begun_so : (s : Environment) (v : Val) (call : Call) (env : Environment) (out : Effects) → surroundings env ≡ s → Ends (IsOpened s) (defaults_begun_runs v call env out)
defaults_begun_so s (vstr kind) call env out b = record { so = (env, b, refl) }
defaults_begun_so s v call env out b = fails_so _ out

pub begun_so : (s : Environment) (o : Opener) (vs : List Val) (n : ℕ) (call : Call) (env : Environment) (out : Effects) → Before o s env → Ends (IsOpened s) (begun_runs o vs n call env out)
unfolding begun_runs
begun_so s (of_template d depth) (v ∷ []) n call env out b = template_named_so s d depth v call env out b
begun_so s (of_function (ItemCall kind)) (v ∷ []) n call env out b = item_named_so s kind v call env out b.0 b.1
begun_so s (of_function Target) (kind ∷ v ∷ []) n call env out b = target_so s kind v n call env out b
begun_so s (of_function SetDefaults) (v ∷ []) n call env out b = defaults_begun_so s v call env out b
begun_so s (of_function DeclareArguments) [] n call env out b = record { so = (env, b, refl) }
begun_so s o vs n call env out b = fails_so _ out

-- Ends

abbrev IsDefinedAround : Environment → Result (Item × Environment) Fault → Type 0
IsDefinedAround env r = IfOk r (λ d. surroundings d.1 ≡ surroundings env)

rows_read_keep : (rows : List Row) (env : Environment) → surroundings (rows_read rows env) ≡ surroundings env
rows_read_keep [] env = refl
rows_read_keep (row ∷ rows) env = rows_read_keep rows (after_read (variable_name row.variable) env) ∙ read_keeps (variable_name row.variable) env

made_keeps : (kind : ItemKind) (name : List ℕ) (p : Position) (env : Environment) (r : Result (List (Variable × Held)) ItemFault) → IsDefinedAround env (item_made kind name p env r)
made_keeps kind name p env (Ok fields) = rows_read_keep (rows_of kind) env
made_keeps kind name p env (Err fault) = tt

defined_keeps : (kind : ItemKind) (name : List ℕ) (p : Position) (env : Environment) → IsDefinedAround env (defined kind name p env)
unfolding defined
defined_keeps kind name p env = made_keeps kind name p env (fields_here kind name env)

item_leaves : (kind : ItemKind) (r : Result (Item × Environment) Fault) (p : Position) (env0 env : Environment) (out : Effects) → surroundings env ≡ surroundings (entered true (with_open (open_in kind) env0)) → env0.setting.inside ≡ open_around kind → IsDefinedAround env r → Leaves (surroundings env0) (item_runs kind r p env out)
item_leaves kind (Err fault) p env0 env out h e k = fails_so _ out
item_leaves kind (Ok d) p env0 env out h e k =
    so_if (is_known kind d.0 out) _ _ (fails_so _ out)
    (checked_leaves (reported_here d.1) _ (with_open (open_around kind) (left d.1)) d.1 (with_defined kind d.0 out) (block_ends (open_in kind) (open_around kind) env0 (left d.1) (left_keeps true (with_open (open_in kind) env0) d.1 (k ∙ h)) e))

item_end_leaves : (kind : ItemKind) (name : List ℕ) (p : Position) (env0 env : Environment) (out : Effects) → surroundings env ≡ surroundings (entered true (with_open (open_in kind) env0)) → env0.setting.inside ≡ open_around kind → Leaves (surroundings env0) (item_end_runs kind name p env out)
unfolding item_end_runs
item_end_leaves kind name p env0 env out h e = item_leaves kind (defined kind name p env) p env0 env out h e (defined_keeps kind name p env)

invoker_checked_so : {s : Environment} (unread : Option (List ℕ × (List ℕ × Position))) (steps : Steps (Option Val)) (env : Environment) (out : Effects) → Leaves s (steps env out) → Leaves s (invoker_checked unread steps env out)
invoker_checked_so (Some unread) steps env out t = fails_so _ out
invoker_checked_so None steps env out t = t

template_end_leaves : (d : DefinitionState) (name : List ℕ) (depth : ℕ) (env0 env after : Environment) (out : Effects) → surroundings env ≡ surroundings (entered true env0) → surroundings after ≡ surroundings (body_begins d name env) → Leaves (surroundings (at_depth depth env0)) (template_end_runs depth after out)
unfolding template_end_runs
template_end_leaves d name depth env0 env after out h k =
    invoker_checked_so (reported_by_invoker after) _ after out
    (checked_leaves (reported_here after) _ (at_depth depth (body_ends after)) after out (at_depth_keeps depth env0 (body_ends after) (body_ends_keep d name env after k ∙ left_keeps true env0 env h)))

defaults_end_leaves : (kind : List ℕ) (env0 env : Environment) (out : Effects) → surroundings env ≡ surroundings (entered false env0) → Leaves (surroundings env0) (defaults_end_runs kind env out)
unfolding defaults_end_runs
defaults_end_leaves kind env0 env out h = keep_ends _ _ out (defaults_set_keep kind env ∙ left_keeps false env0 env h)

arguments_taken_leaves : (r : Result Environment (List ℕ)) (arguments : List ArgumentState) (p : Position) (env0 env : Environment) (out : Effects) → IsKept env0 r → Leaves (surroundings env0) (arguments_taken r arguments p env out)
arguments_taken_leaves (Ok after) arguments p env0 env out h = keep_ends _ after _ h
arguments_taken_leaves (Err name) arguments p env0 env out h = fails_so _ out

arguments_end_leaves : (p : Position) (env0 env : Environment) (out : Effects) → surroundings env ≡ surroundings (declaring_entered env0) → Leaves (surroundings env0) (arguments_end_runs p env out)
unfolding arguments_end_runs
arguments_end_leaves p env0 env out h =
    arguments_taken_leaves (arguments_declared p env) (arguments_here p env) p env0 env out (arguments_declared_keep p env0 env h)

-- The whole

-- the bodies of templates, each of which leaves what stands around its scope
abbrev pub BodiesKeep : (DefinitionState → Position → Steps (Unit {0})) → Type 0
BodiesKeep body = (definition : DefinitionState) (p : Position) → Keep (body definition p)

module _ (body : DefinitionState → Position → Steps (Unit {0})) (b : BodiesKeep body) (block : Steps (Unit {0})) (u : Keep block) where
  opened_leaves : (s : Environment) (o : Opened) (p : Position) (env : Environment) (out : Effects) → During o s env → Leaves s (opened_call_runs body o p block env out)
  unfolding opened_call_runs closed_runs
  opened_leaves s (opened_item kind name) p env out d =
      ends_do _ _ (u env out) (λ l h. moved d.1 (item_end_leaves kind name p d.0 l.environment l.effects (h ∙ d.3) d.2))
  opened_leaves s (opened_template definition name depth) p env out d =
      ends_do _ _ (u env out) (λ l h. ends_do _ _ (b definition p (body_begins definition name l.environment) l.effects) (λ k g. moved d.1 (template_end_leaves definition name depth d.0 l.environment k.environment k.effects (h ∙ d.2) g)))
  opened_leaves s (opened_defaults kind) p env out d =
      ends_do _ _ (u env out) (λ l h. moved d.1 (defaults_end_leaves kind d.0 l.environment l.effects (h ∙ d.2)))
  opened_leaves s opened_arguments p env out d =
      ends_do _ _ (u env out) (λ l h. moved d.1 (arguments_end_leaves p d.0 l.environment l.effects (h ∙ d.2)))

  valued_leaves : (s : Environment) (o : Opener) (vs : List Val) (n : ℕ) (call : Call) (env : Environment) (out : Effects) → Before o s env → Leaves s (valued_runs body o vs n call block env out)
  unfolding valued_runs
  valued_leaves s o vs n call env out k =
      ends_do _ _ (begun_so s o vs n call env out k) (λ l d. opened_leaves s l.value call.position l.environment l.effects d)

  pub opening_leaves : (s : Environment) (o : Opener) (n : ℕ) (call : Call) (values : Steps (List Val)) → Keep values → (env : Environment) (out : Effects) → Before o s env → Leaves s (opening_runs body o n call values block env out)
  unfolding opening_runs
  opening_leaves s o n call values t env out k =
      ends_do _ _ (t env out) (λ l h. valued_leaves s o l.value n call l.environment l.effects (before_moved o s env l.environment h k))
