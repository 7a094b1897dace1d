-- What the small steps of `forward_variables_from` and `not_needed` have for the words of the meaning.
use Rattle.std.specs.Prelude.{◌≡◌, ℕ, List, if◌then◌else◌, Option, Some, None, Result, Ok, Err}
use Rattle.std.specs.List.{list_all}
use Rattle.gn_values.specs.Val.{Val}
use Rattle.gn_values.specs.View.{val_of}
use Rattle.gn_items.specs.Effects.{Effects}
use Rattle.gn_runs.specs.Runs.{Run}
use Rattle.gn_environment.specs.Environment.{Environment}
use Rattle.gn_meaning.specs.Steps.{Steps, Left}
use Rattle.gn_meaning.specs.Items.{is_string}
use Rattle.gn_meaning.specs.Selections.{FirstArgument, the_invoker, a_value, Selection, every_name, listed_names, other_text, no_names, texts_in}
use Rattle.gn_steps.specs.declared.step.StepEnd.{StepEnd}
use Rattle.gn_steps.specs.declared.step.StepEnd.TheVariants as step
use Rattle.gn_calls_scopes.specs.declared.selections.FirstArgument.{FirstArgument as Argument}
use Rattle.gn_calls_scopes.specs.declared.selections.FirstArgument.TheVariants.{Invoker, Value}
use Rattle.gn_calls_scopes.specs.declared.selections.Selection.{Selection as Names}
use Rattle.gn_calls_scopes.specs.declared.selections.Selection.TheVariants.{Every, Listed, OtherText, Nothing}
use Rattle.gn_calls_scopes.specs.declared.selections.Selected.{Selected}
use Rattle.gn_calls_scopes.specs.declared.selections.Selected.TheVariants as selected
use Rattle.gn_env.specs.declared.forwarding.ForwardError.{ForwardError}
use Rattle.gn_env.specs.declared.forwarding.ForwardError.TheVariants.{AlreadySet, Memory}
use Rattle.gn_faults.specs.declared.fault.Fault.{Fault}
use Rattle.gn_steps.specs.Ends.{IsStepFailure, IsFault}

-- these strings, if all values are strings
abbrev pub all_texts : List Val → Option (List (List ℕ))
all_texts vs = if list_all is_string vs then Some (texts_in vs) else None

-- the invoker, or the value of an argument
abbrev pub source_view : Argument → FirstArgument
source_view Invoker = the_invoker
source_view (Value v) = a_value (val_of v.now)

-- which names are selected
abbrev pub selection_view : Names → Selection
selection_view Every = every_name
selection_view (Listed names) = listed_names names
selection_view OtherText = other_text
selection_view Nothing = no_names

-- whatever is done with the excepted names, the run is that of these
abbrev pub IsExcepted : Result (List (List ℕ)) StepEnd → (List (List ℕ) → Steps (Option Val)) → Environment → Effects → Run (Left (Option Val)) → Type 0
IsExcepted (Ok except) next env out run = run ≡ next except env out
IsExcepted (Err e) next env out run = IsStepFailure e out run

-- whatever is done with the names that are selected and those that are excepted, the run is that of these
abbrev pub IsSelected : Result Selected StepEnd → (List (List ℕ) → Steps (Option Val)) → (List (List ℕ) → List (List ℕ) → Steps (Option Val)) → Environment → Effects → Run (Left (Option Val)) → Type 0
IsSelected (Ok (selected.Every except)) all some env out run = run ≡ all except env out
IsSelected (Ok (selected.Listed names except)) all some env out run = run ≡ some names except env out
IsSelected (Err e) all some env out run = IsStepFailure e out run

-- names that can't be forwarded, as they are set, are a fault; want of memory stays what it is
abbrev pub IsForwardRefusal : ForwardError → StepEnd → (List ℕ → Fault) → Type 0
IsForwardRefusal (AlreadySet name) end fault = IsFault end (fault name)
IsForwardRefusal Memory end fault = end ≡ step.Memory
