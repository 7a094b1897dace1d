-- What an expression comes to that was read from a file, as its call has it.
use Rattle.std.proofs.Common.{◌≡◌, ℕ, ◌+◌, List, [], ◌∷◌, Option, Some, Result, Ok, Err, refl, ap, sym, subst, ◌∙◌, add-one, option_map}
use Rattle.gn_paths.specs.declared.place.Place.{Place}
use Rattle.gn_tree.specs.declared.tree.Call.{Call}
use Rattle.gn_tree.specs.Tree.{ExprTree}
use Rattle.gn_values.specs.Val.{Val}
use Rattle.gn_values.specs.View.{val_of}
use Rattle.gn_values.specs.declared.value.Value.{Value}
use Rattle.gn_faults.specs.declared.fault.Fault.{Fault}
use Rattle.gn_faults.specs.declared.code.Code.TheVariants as code
use Rattle.gn_items.specs.Effects.{Effects}
use Rattle.gn_runs.specs.Runs.{Answers, wrong, Run}
use Rattle.gn_environment.specs.Environment.{Environment}
use Rattle.gn_environment.specs.Faults.{fault_in}
use Rattle.gn_meaning.specs.Steps.{Left}
use Rattle.gn_meaning.specs.Contents.{evaluated_runs}
use Rattle.gn_meaning.specs.Meaning.{world, expr_runs, reads}
use Rattle.gn_eval.specs.declared.ending.EvalEnd.{EvalEnd}
use Rattle.gn_eval.specs.declared.ending.EvalEnd.TheVariants.{Wrong, Spoiled, Stopped, Memory}
use Rattle.gn_eval.specs.Ends.{Evaluates}
use Rattle.gn_eval.specs.Library.{LibraryState}
use Rattle.gn_eval.specs.Reads.{IsReadEnd}

-- an expression that is read is evaluated where one call more may open
pub read_inside : (room inside : ℕ) (a : Answers) (expression : ExprTree) (env : Environment) (out : Effects) → inside + 1 ≡ room → reads room a expression env out ≡ expr_runs (world inside a) 0 expression env out
unfolding reads
read_inside room inside a expression env out h = ap (λ (r : ℕ). reads r a expression env out) (sym h ∙ add-one inside)

module _ (call : Call) (env : Environment) (before after : LibraryState) (behind : Environment) (out : Effects) (run : Answers → Run (Left Val)) where
  abbrev as_call : Run (Left Val) → Run (Left (Option Val))
  as_call r = evaluated_runs r call env

  abbrev fault_of_call : Fault
  fault_of_call = fault_in env.setting call.position code.BadArguments (call.name ∷ [])

  abbrev IsOfCall : Result (Option Value) EvalEnd → Type 0
  IsOfCall result = Evaluates (option_map val_of) before after result env out (λ a. as_call (run a))

  abbrev IsOfExpression : Result Value EvalEnd → Type 0
  IsOfExpression value = Evaluates val_of before after value behind out run

  read_ended : (value : Value) → IsOfExpression (Ok value) → IsOfCall (Ok (Some value))
  read_ended value h = record { runs = λ a told. ap as_call (h.runs a told); goes = h.goes; rose = λ e. cc }

  read_wrong : (fault other : Fault) → other ≡ fault_of_call → IsOfExpression (Err (Wrong fault)) → IsOfCall (Err (Wrong other))
  read_wrong fault other is h = record {
    runs = λ a told. ap as_call (h.runs a told) ∙ ap (λ (f : Fault). record { end = wrong f; asked = out.asked }) (sym is);
    goes = h.goes;
    rose = λ e. cc;
  }

  read_starved : (e : EvalEnd) → IsOfExpression (Err e) → IsOfCall (Err Memory)
  read_starved e h = record { runs = λ a told. tt; goes = h.goes; rose = λ k. cc }

  read_spoiled : (path : List ℕ) (place : Place) → IsOfExpression (Err (Spoiled path place)) → IsOfCall (Err (Spoiled path place))
  read_spoiled path place h = record { runs = λ a told. ap as_call (h.runs a told); goes = h.goes; rose = λ e. cc }

  read_stopped : IsOfExpression (Err Stopped) → IsOfCall (Err Stopped)
  read_stopped h = record { runs = λ a told. ap as_call (h.runs a told); goes = h.goes; rose = λ e. h.rose refl }

  pub read_claims : (value : Result Value EvalEnd) (result : Result (Option Value) EvalEnd) → IsReadEnd fault_of_call value result → IsOfExpression value → IsOfCall result
  read_claims (Ok value) result is h = subst IsOfCall (sym is) (read_ended value h)
  read_claims (Err (Wrong fault)) (Ok x) is h = absurd is
  read_claims (Err (Wrong fault)) (Err (Wrong other)) is h = read_wrong fault other is h
  read_claims (Err (Wrong fault)) (Err (Spoiled path place)) is h = absurd is
  read_claims (Err (Wrong fault)) (Err Stopped) is h = absurd is
  read_claims (Err (Wrong fault)) (Err Memory) is h = read_starved (Wrong fault) h
  read_claims (Err (Spoiled path place)) result is h = subst IsOfCall (sym is) (read_spoiled path place h)
  read_claims (Err Stopped) result is h = subst IsOfCall (sym is) (read_stopped h)
  read_claims (Err Memory) result is h = subst IsOfCall (sym is) (read_starved Memory h)
