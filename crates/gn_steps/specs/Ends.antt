-- How what a step that asks nothing answers stands to the meaning.
use Rattle.std.specs.Prelude.{◌≡◌, Result, Ok, Err}
use Rattle.gn_faults.specs.declared.fault.Fault.{Fault}
use Rattle.gn_items.specs.Effects.{Effects}
use Rattle.gn_values.specs.declared.error.ValueError.{ValueError}
use Rattle.gn_values.specs.declared.error.ValueError.TheVariants as value_error
use Rattle.gn_runs.specs.Runs.{Run}
use Rattle.gn_environment.specs.Environment.{Environment}
use Rattle.gn_meaning.specs.Steps.{Left, ends, breaks}
use Rattle.gn_steps.specs.declared.step.StepEnd.{StepEnd}
use Rattle.gn_steps.specs.declared.step.StepEnd.TheVariants as step

-- the end is this fault, or want of memory
abbrev pub IsFault : StepEnd → Fault → Type 0
IsFault (step.Wrong f) fault = f ≡ fault
IsFault step.Memory fault = Unit {0}

-- a fact of the fault, where the end isn't want of memory
abbrev pub IfFault : StepEnd → (Fault → Type 0) → Type 0
IfFault (step.Wrong fault) P = P fault
IfFault step.Memory P = Unit {0}

-- the end is this fault, but want of memory where that is what an operator answers
abbrev pub IsRefusal : ValueError → StepEnd → Fault → Type 0
IsRefusal value_error.Memory end fault = end ≡ step.Memory
IsRefusal error end fault = IsFault end fault

-- a step without a value: the run ends with its fault, and has asked nothing. Of want of memory nothing is claimed.
abbrev pub IsStepFailure : {A : Type 0} → StepEnd → Effects → Run (Left A) → Type 0
IsStepFailure (step.Wrong fault) out run = run ≡ breaks fault out
IsStepFailure step.Memory out run = Unit {0}

-- what the program answers is the run: a value with the environment and the effects behind it, or the first fault
abbrev pub IsStep : {A T : Type 0} → (T → A) → Result T StepEnd → Environment → Effects → Run (Left A) → Type 0
IsStep view (Ok x) env out run = run ≡ ends (view x) env out
IsStep view (Err e) env out run = IsStepFailure e out run
