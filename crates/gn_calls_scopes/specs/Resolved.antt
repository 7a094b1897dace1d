-- What the small step of an import's path has for the words of the meaning.
use Rattle.std.specs.Prelude.{◌≡◌, ℕ, List, Option, Result, Ok, Err}
use Rattle.gn_tree.specs.declared.position.Position.{Position}
use Rattle.gn_values.specs.Val.{Val}
use Rattle.gn_items.specs.Effects.{Effects}
use Rattle.gn_runs.specs.Runs.{Answers, Run}
use Rattle.gn_environment.specs.Environment.{Environment}
use Rattle.gn_meaning.specs.Steps.{Left, content_asked}
use Rattle.gn_meaning.specs.Imports.{place_here, content_runs, imported_runs}
use Rattle.gn_steps.specs.declared.step.StepEnd.{StepEnd}
use Rattle.gn_steps.specs.Ends.{IsStepFailure}

-- an import of the file at a path, whose argument and whose name stand there: its content is asked for
abbrev pub path_asked : List ℕ → Answers → Position → Position → Environment → Effects → Run (Left (Option Val))
path_asked path a at position env out =
    content_asked (a.contents path) path (place_here position env) out (λ content out1. content_runs content a path at position env out1)

-- the import that an argument names is that of the file at this path, or the argument is wrong
abbrev pub IsResolved : Result (List ℕ) StepEnd → Answers → Val → Position → Position → Environment → Effects → Type 0
IsResolved (Ok path) a v at position env out = imported_runs a v at position env out ≡ path_asked path a at position env out
IsResolved (Err e) a v at position env out = IsStepFailure e out (imported_runs a v at position env out)
