-- A call of `import` whose path is written out, as the meaning has it.
use Rattle.std.proofs.Common.{◌≡◌, ◌⊎◌, inl, inr, ℕ, Bool, true, false, List, [], ◌∷◌, ◌++◌, Option, Some, None, refl, sym, ◌∙◌, ap, subst}
use Rattle.gn_paths.specs.declared.place.Place.{Place}
use Rattle.gn_tree.specs.declared.position.Position.{Position}
use Rattle.gn_tree.specs.declared.tree.Call.{Call}
use Rattle.gn_tree.specs.declared.piece.Piece.TheVariants.{Bytes}
use Rattle.gn_tree.specs.Tree.{ExprTree, string_expr, ExprTrees, no_exprs, expr_then, BlockTree, call_statement}
use Rattle.gn_tree.specs.Views.{body_of, call_of}
use Rattle.gn_values.specs.Val.{Val, vstr}
use Rattle.gn_values.specs.Limits.{text_fits}
use Rattle.gn_definitions.specs.Imported.{DefinitionState}
use Rattle.gn_items.specs.Effects.{Effects, with_asked}
use Rattle.gn_runs.specs.Runs.{Question, content_of, import_of, Content, has_bytes, is_absent, is_too_big, Imported, Answers, needs, Run}
use Rattle.gn_environment.specs.Environment.{Environment}
use Rattle.gn_environment.specs.Templates.{template_of}
use Rattle.gn_functions.specs.declared.function.Function.{Function}
use Rattle.gn_functions.specs.declared.function.Function.TheVariants.{Changing as OfChanging}
use Rattle.gn_functions.specs.declared.function.Changing.TheVariants.{Import}
use Rattle.gn_meaning.specs.Arguments.{at_argument}
use Rattle.gn_meaning.specs.Pieces.{piece_runs}
use Rattle.gn_meaning.specs.Words.{string_runs}
use Rattle.gn_meaning.specs.Steps.{Steps, World, Left, max_evaluation_depth, deeper, ends, then_do, content_asked, import_asked}
use Rattle.gn_meaning.specs.Imports.{place_here, content_runs, merged_to, imported_runs}
use Rattle.gn_meaning.specs.ChangingCalls.{begins_with_invoker, changed_runs}
use Rattle.gn_meaning.specs.FunctionCalls.{Parts, given_runs, accepted_runs, function_runs, built_in_runs, template_or_built_in, called_runs}
use Rattle.gn_meaning.specs.Meaning.{block_in, world, expr_runs, values_run, call_runs, statement_runs}
use Rattle.gn_calls_scopes.specs.Resolved.{path_asked}
use Rattle.gn_eval.specs.Library.{Need, IsThere, ImportLacks}
use Rattle.gn_eval.specs.Parts.{parts}
use Rattle.gn_outermost.specs.Written.{IsWrittenOut}
use Rattle.gn_outermost.specs.Lacking.{IsImportOf, NeedsOver}

-- the value of a text that is written out
written_value : (w : World) (n : ℕ) (es : ExprTrees) (text : List ℕ) (env : Environment) (out : Effects) → IsWrittenOut es text → text_fits text ≡ true → values_run w n es [] env out ≡ ends (vstr text ∷ []) env out
unfolding values_run expr_runs piece_runs string_runs
written_value w n es text env out is fits = rw is.1 (rw fits refl)

-- no import begins with the invoker
no_invoker : (es : ExprTrees) (env : Environment) → begins_with_invoker Import es env ≡ false
unfolding begins_with_invoker
no_invoker no_exprs env = refl
no_invoker (expr_then e es) env = refl

-- what an accepted import does with that value
accepted_import : (a : Answers) (body : DefinitionState → Position → Steps (Unit {0})) (inside : ℕ) (call : Call) (ps : Parts) (text : List ℕ) (env : Environment) (out : Effects)
    → accepted_runs 0 call env out ≡ ends (OfChanging Import) env out → ps.values env out ≡ ends (vstr text ∷ []) env out
    → built_in_runs a body 0 inside call ps env out ≡ imported_runs a (vstr text) (at_argument call 0) call.position env out
unfolding built_in_runs function_runs changed_runs
accepted_import a body inside call ps text env out accepted values =
    ap (λ (r : Run (Left Function)). then_do r (λ function env1 out1. function_runs a body function 0 inside call ps env1 out1)) accepted
    ∙ ap (λ (b : Bool). then_do (given_runs b ps env out) (λ vs env1 out1. changed_runs a Import b vs call inside env1 out1)) (no_invoker call.arguments env)
    ∙ ap (λ (r : Run (Left (List Val))). then_do r (λ vs env1 out1. changed_runs a Import false vs call inside env1 out1)) values

block_back : (b : Option BlockTree) → block_in (body_of b) ≡ b
block_back None = refl
block_back (Some b) = refl

-- a call whose name means no template is that of what is built in
built_in : (w : World) (n : ℕ) (call : Call) (env : Environment) (out : Effects) → template_of call.name env ≡ None → call_runs w n (call_of call) env out ≡ built_in_runs w.answers w.call n (deeper n 1) call (parts w n call) env out
unfolding call_runs called_runs
built_in w n call env out none =
    ap (λ (b : Option BlockTree). called_runs w.answers w.call n (deeper n 1) (record { position = call.position; name = call.name; arguments = call.arguments; block = b }) (parts w n call) env out) (block_back call.block)
    ∙ ap (λ (d : Option DefinitionState). template_or_built_in d w.answers w.call n (deeper n 1) call (parts w n call) env out) none

-- a call of `import` asks for the file at the path that its argument means
pub asks_for : (call : Call) (text path : List ℕ) (env : Environment) → IsWrittenOut call.arguments text → text_fits text ≡ true → template_of call.name env ≡ None
    → ((out : Effects) → accepted_runs 0 call env out ≡ ends (OfChanging Import) env out)
    → ((a : Answers) (out : Effects) → imported_runs a (vstr text) (at_argument call 0) call.position env out ≡ path_asked path a (at_argument call 0) call.position env out)
    → IsImportOf call path env
unfolding statement_runs
asks_for call text path env is fits none accepted meant a out =
    let w = world max_evaluation_depth a in
    ap (λ (r : Run (Left (Option Val))). then_do r (λ _ env1 out1. ends tt env1 out1))
    (built_in w 0 call env out none
    ∙ accepted_import a w.call (deeper 0 1) call (parts w 0 call) text env out (accepted out) (written_value w (deeper 0 1) call.arguments text env out is fits)
    ∙ meant a out)

-- what is lacking is needed
there_lacks : (content : Option Content) (a : Answers) (path : List ℕ) (at position : Position) (env : Environment) (out : Effects) → IsThere content → a.imports path ≡ None
    → content_asked content path (place_here position env) out (λ c out1. content_runs c a path at position env out1) ≡ record { end = needs (import_of path) (place_here position env); asked = (out.asked ++ content_of path ∷ []) ++ import_of path ∷ [] }
there_lacks None a path at position env out there none = absurd there
there_lacks (Some (has_bytes bytes)) a path at position env out there none = rw none refl
there_lacks (Some is_absent) a path at position env out there none = absurd there
there_lacks (Some is_too_big) a path at position env out there none = rw none refl

pub path_lacks : (path : List ℕ) (place : Place) (position : Position) (env : Environment) (need : Need) → place ≡ place_here position env → (a : Answers) → ImportLacks path place a need
    → (at : Position) (out : Effects) → NeedsOver need out.asked (path_asked path a at position env out)
path_lacks path place position env need here a (inl lacks) at out = rw lacks.1 (rw lacks.0 (rw here refl))
path_lacks path place position env need here a (inr lacks) at out = rw lacks.2 (rw here (there_lacks (a.contents path) a path at position env out lacks.0 lacks.1))
