-- What a call leaves around the scope in which it stands, where its parts do so.
use Rattle.std.proofs.Common.{◌≡◌, ℕ, ◌+◌, Bool, true, false, ◌&&◌, nat_lt, Option, Some, None, is_some, refl}
use Rattle.gn_tree.specs.declared.tree.Call.{Call}
use Rattle.gn_tree.specs.declared.position.Position.{Position}
use Rattle.gn_tree.specs.Counts.{expr_count}
use Rattle.gn_values.specs.Val.{Val}
use Rattle.gn_definitions.specs.Imported.{DefinitionState}
use Rattle.gn_items.specs.Effects.{Effects}
use Rattle.gn_runs.specs.Runs.{Answers}
use Rattle.gn_environment.specs.Environment.{Environment}
use Rattle.gn_environment.specs.Templates.{template_of, at_depth}
use Rattle.gn_environment.specs.Surroundings.{surroundings}
use Rattle.gn_environment.proofs.Surroundings.{depth_again}
use Rattle.gn_meaning.specs.Steps.{Left, Steps, max_evaluation_depth}
use Rattle.gn_meaning.specs.Imports.{max_import_nesting}
use Rattle.gn_meaning.specs.Templates.{opened_depth}
use Rattle.gn_functions.specs.Functions.{function_of}
use Rattle.gn_functions.specs.Rules.{takes, rule_of, template_rule}
use Rattle.gn_meaning.specs.ChangingCalls.{begins_with_invoker}
use Rattle.gn_meaning.specs.OpeningCalls.{of_template, of_function}
use Rattle.gn_meaning.specs.FunctionCalls.{allowed_here, ruled_runs, named_runs, accepted_runs, template_accepted_runs, is_skipped, unless_skipped, Parts, given_runs, changing_runs, function_runs, built_in_runs, template_called_runs, template_or_built_in, called_runs}
use Rattle.gn_functions.specs.declared.function.Function.{Function}
use Rattle.gn_functions.specs.declared.function.Function.TheVariants.{Plain, Changing as OfChanging, Opening as OfOpening, Defined, Foreach, ReadFile}
use Rattle.gn_functions.specs.declared.function.Changing.{Changing}
use Rattle.gn_functions.specs.declared.function.Opening.{Opening}
use Rattle.gn_functions.specs.declared.function.Opening.TheVariants.{Item as ItemCall, Target, SetDefaults, DeclareArguments}
use Rattle.gn_functions.specs.declared.function.Named.{Named}
use Rattle.gn_functions.specs.declared.function.Named.TheVariants.{Function as OfFunction, Excluded, Unknown}
use Rattle.gn_meaning.proofs.Ends.{Ends, Leaves, Keep, ends_do, moved, keep_do, fails_so, so_if}
use Rattle.gn_meaning.proofs.KeptBySteps.{plain_keeps}
use Rattle.gn_meaning.proofs.Contents.{read_file_keeps}
use Rattle.gn_meaning.proofs.KeptBySelections.{changed_keeps}
use Rattle.gn_meaning.proofs.KeptByOpenings.{Before, BodiesKeep, is_open_around, opening_leaves}

-- what holds where a function is called: one that opens a scope begins it there
abbrev pub IsReady : Environment → Function → Environment → Type 0
IsReady s (Plain f) env = surroundings env ≡ s
IsReady s (OfChanging f) env = surroundings env ≡ s
IsReady s (OfOpening f) env = Before (of_function f) s env
IsReady s Defined env = surroundings env ≡ s
IsReady s Foreach env = surroundings env ≡ s
IsReady s ReadFile env = surroundings env ≡ s

abbrev pub IsAccepted : Environment → Left Function → Type 0
IsAccepted s l = IsReady s l.value l.environment

allowed_is_ready : (f : Function) (env : Environment) → allowed_here (rule_of f).allowed env ≡ true → IsReady (surroundings env) f env
unfolding rule_of
allowed_is_ready (Plain f) env h = refl
allowed_is_ready (OfChanging f) env h = refl
allowed_is_ready (OfOpening (ItemCall kind)) env h = (refl, is_open_around kind env h)
allowed_is_ready (OfOpening Target) env h = refl
allowed_is_ready (OfOpening SetDefaults) env h = refl
allowed_is_ready (OfOpening DeclareArguments) env h = refl
allowed_is_ready Defined env h = refl
allowed_is_ready Foreach env h = refl
allowed_is_ready ReadFile env h = refl

ruled_so : (f : Function) (n : ℕ) (call : Call) (env : Environment) (out : Effects) → Ends (IsAccepted (surroundings env)) (ruled_runs f (rule_of f) n call env out)
unfolding ruled_runs
ruled_so f n call env out = by (allowed_here (rule_of f).allowed env) refl
  where
    by : (b : Bool) → allowed_here (rule_of f).allowed env ≡ b → Ends (IsAccepted (surroundings env)) (ruled_runs f (rule_of f) n call env out)
    by true e = rw e (so_if (takes (rule_of f) (expr_count call.arguments) (is_some call.block)) _ _ (so_if ((rule_of f).imports && nat_lt max_import_nesting (n + env.depth)) _ _ (fails_so _ out) (record { so = allowed_is_ready f env e })) (fails_so _ out))
    by false e = rw e (fails_so _ out)

named_so : (f : Named) (n : ℕ) (call : Call) (env : Environment) (out : Effects) → Ends (IsAccepted (surroundings env)) (named_runs f n call env out)
named_so (OfFunction f) n call env out = ruled_so f n call env out
named_so Excluded n call env out = fails_so _ out
named_so Unknown n call env out = fails_so _ out

pub accepted_so : (n : ℕ) (call : Call) (env : Environment) (out : Effects) → Ends (IsAccepted (surroundings env)) (accepted_runs n call env out)
unfolding accepted_runs
accepted_so n call env out = named_so (function_of call.name) n call env out

-- a template's call that is open: the depth before it
pub template_accepted_so : (n : ℕ) (call : Call) (env : Environment) (out : Effects) → Ends (λ (l : Left ℕ). surroundings (at_depth l.value l.environment) ≡ surroundings env) (template_accepted_runs n call env out)
unfolding template_accepted_runs
template_accepted_so n call env out =
    so_if (takes template_rule (expr_count call.arguments) (is_some call.block)) _ _
    (so_if (nat_lt max_evaluation_depth (opened_depth n env)) _ _ (fails_so _ out) (record { so = depth_again (opened_depth n env) env })) (fails_so _ out)

-- where a function that opens a scope is called, this stands around
around_before : (f : Opening) (s env : Environment) → Before (of_function f) s env → surroundings env ≡ s
around_before (ItemCall kind) s env b = b.0
around_before Target s env b = b
around_before SetDefaults s env b = b
around_before DeclareArguments s env b = b

unless_leaves : (s : Environment) (skipped : Bool) (steps : Steps (Option Val)) (env : Environment) (out : Effects) → surroundings env ≡ s → Leaves s (steps env out) → Leaves s (unless_skipped skipped steps env out)
unless_leaves s true steps env out h l = record { so = h }
unless_leaves s false steps env out h l = l

-- the parts of a call, each of which leaves what stands around its scope
pub record PartsKeep (parts : Parts) : Type 0 where
  pub values : Keep parts.values
  pub others : Keep parts.others
  pub tests : Keep parts.tests
  pub loops : Keep parts.loops
  pub block : Keep parts.block

module _ (answers : Answers) (body : DefinitionState → Position → Steps (Unit {0})) (b : BodiesKeep body) (n inside : ℕ) (call : Call) (parts : Parts) (t : PartsKeep parts) where
  given_keeps : (invoker : Bool) → Keep (given_runs invoker parts)
  given_keeps true env out = t.others env out
  given_keeps false env out = t.values env out

  changing_keeps : (f : Changing) → Keep (changing_runs answers f inside call parts)
  changing_keeps f env out =
      keep_do _ _ (given_keeps (begins_with_invoker f call.arguments env) env out)
      (λ vs env1 out1. changed_keeps answers f (begins_with_invoker f call.arguments env) vs call inside env1 out1)

  function_leaves : (s : Environment) (f : Function) (env : Environment) (out : Effects) → IsReady s f env → Leaves s (function_runs answers body f n inside call parts env out)
  unfolding function_runs
  function_leaves s (Plain f) env out r = moved r (keep_do _ _ (t.values env out) (λ vs env1 out1. plain_keeps f vs call env1 out1))
  function_leaves s (OfChanging f) env out r = moved r (changing_keeps f env out)
  function_leaves s (OfOpening f) env out r =
      unless_leaves s (is_skipped f env) _ env out (around_before f s env r) (opening_leaves body b parts.block t.block s (of_function f) n call parts.values t.values env out r)
  function_leaves s Defined env out r = moved r (t.tests env out)
  function_leaves s Foreach env out r = moved r (t.loops env out)
  function_leaves s ReadFile env out r = moved r (keep_do _ _ (t.values env out) (λ vs env1 out1. read_file_keeps answers parts.reads vs n call env1 out1))

  built_in_keeps : Keep (built_in_runs answers body n inside call parts)
  unfolding built_in_runs
  built_in_keeps env out =
      ends_do _ _ (accepted_so n call env out) (λ l r. function_leaves (surroundings env) l.value l.environment l.effects r)

  template_called_keeps : (d : DefinitionState) → Keep (template_called_runs body d n call parts)
  unfolding template_called_runs
  template_called_keeps d env out =
      ends_do _ _ (template_accepted_so n call env out)
      (λ l h. opening_leaves body b parts.block t.block (surroundings env) (of_template d l.value) n call parts.values t.values l.environment l.effects h)

  chosen_keeps : (d : Option DefinitionState) → Keep (template_or_built_in d answers body n inside call parts)
  chosen_keeps (Some d) env out = template_called_keeps d env out
  chosen_keeps None env out = built_in_keeps env out

  pub called_keeps : Keep (called_runs answers body n inside call parts)
  unfolding called_runs
  called_keeps env out = chosen_keeps (template_of call.name env) env out
