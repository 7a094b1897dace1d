-- Imports whose answers are lacking.
use Rattle.std.specs.Prelude.{◌≡◌, ℕ, List}
use Rattle.gn_tree.specs.Tree.{call_statement}
use Rattle.gn_tree.specs.declared.tree.Call.{Call}
use Rattle.gn_tree.specs.Views.{call_of}
use Rattle.gn_items.specs.Effects.{Effects}
use Rattle.gn_runs.specs.Runs.{Question, Answers, needs, Run}
use Rattle.gn_environment.specs.Environment.{Environment}
use Rattle.gn_meaning.specs.Arguments.{at_argument}
use Rattle.gn_meaning.specs.Steps.{max_evaluation_depth, ends, then_do}
use Rattle.gn_meaning.specs.Meaning.{world, statement_runs}
use Rattle.gn_calls_scopes.specs.Resolved.{path_asked}
use Rattle.gn_eval.specs.Library.{Need}
use Rattle.gn_eval.specs.Ends.{asked_until}

-- as a statement of the outermost block the call asks for the file at this path, and does nothing else before
abbrev pub IsImportOf : Call → List ℕ → Environment → Type 0
IsImportOf call path env =
    (a : Answers) (out : Effects) → statement_runs (world max_evaluation_depth a) 0 (call_statement (call_of call)) env out
    ≡ then_do (path_asked path a (at_argument call 0) call.position env out) (λ _ env1 out1. ends tt env1 out1)

-- a run needs what was noted, and has asked these questions before
abbrev pub NeedsOver : {A : Type 0} → Need → List Question → Run A → Type 0
NeedsOver need asked run = run ≡ record { end = needs need.question need.place; asked = asked_until need.question asked }
