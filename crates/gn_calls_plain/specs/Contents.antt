-- What the small steps of `read_file` have for the words of the meaning.
use Rattle.std.specs.Prelude.{◌≡◌, ◌≤◌, Result, Ok, Err}
use Rattle.gn_tree.specs.declared.tree.Call.{Call}
use Rattle.gn_items.specs.Effects.{Effects}
use Rattle.gn_runs.specs.Runs.{Answers, Run}
use Rattle.gn_environment.specs.Environment.{Environment}
use Rattle.gn_meaning.specs.Steps.{Left}
use Rattle.gn_tree.specs.Depth.{max_tree_depth, expr_depth}
use Rattle.gn_meaning.specs.Contents.{Read, comes_to, holds, content_read}
use Rattle.gn_calls_plain.specs.declared.contents.Reading.{Reading}
use Rattle.gn_calls_plain.specs.declared.contents.Read.{Read as HasRead}
use Rattle.gn_calls_plain.specs.declared.contents.Read.TheVariants.{Answer, Expression}
use Rattle.gn_calls_plain.specs.Answers.{settled_view}
use Rattle.gn_steps.specs.declared.step.StepEnd.{StepEnd}
use Rattle.gn_steps.specs.Ends.{IsStepFailure}

-- the run asks for the content of this file, of which this is made, or ends with the first fault of the call
abbrev pub IsReading : Result Reading StepEnd → Answers → Call → Environment → Effects → Run (Left Read) → Type 0
IsReading (Ok r) a call env out run = run ≡ content_read r.conversion r.path a call env out
IsReading (Err e) a call env out run = IsStepFailure e out run

-- what a content comes to
abbrev pub read_view : HasRead → Read
read_view (Answer settled) = comes_to (settled_view settled)
read_view (Expression path expression) = holds path expression

-- an expression that is read is as shallow as those of files are
abbrev pub IsShallowRead : HasRead → Type 0
IsShallowRead (Answer settled) = Unit {0}
IsShallowRead (Expression path expression) = expr_depth expression ≤ max_tree_depth
