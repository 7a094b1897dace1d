-- How what the program answers stands to the meaning.
use Rattle.std.specs.Prelude.{◌≡◌, ◌<◌, ℕ, List, [], ◌∷◌, ◌++◌, Option, Some, Result, Ok, Err}
use Rattle.gn_paths.specs.declared.place.Place.{Place}
use Rattle.gn_items.specs.Effects.{Effects, with_asked}
use Rattle.gn_runs.specs.Runs.{Question, content_of, import_of, Answers, wrong, spoiled, needs, Run}
use Rattle.gn_environment.specs.Environment.{Environment}
use Rattle.gn_meaning.specs.Steps.{Left, ends}
use Rattle.gn_eval.specs.Library.{Need, LibraryState, Includes, GoesOn}
use Rattle.gn_steps.specs.declared.step.StepEnd.{StepEnd}
use Rattle.gn_steps.specs.declared.step.StepEnd.TheVariants as step
use Rattle.gn_eval.specs.declared.library.LibStop.{LibStop}
use Rattle.gn_eval.specs.declared.library.LibStop.TheVariants as stop
use Rattle.gn_eval.specs.declared.ending.EvalEnd.{EvalEnd}
use Rattle.gn_eval.specs.declared.ending.EvalEnd.TheVariants.{Wrong, Spoiled, Stopped, Memory}

-- the end of an evaluation with a step that asks nothing
abbrev pub end_of_step : StepEnd → EvalEnd
end_of_step (step.Wrong fault) = Wrong fault
end_of_step step.Memory = Memory

-- the end of an evaluation over a library that doesn't answer
abbrev pub end_of_stop : LibStop → EvalEnd
end_of_stop stop.Stopped = Stopped
end_of_stop stop.Memory = Memory

abbrev pub lifted : {T : Type 0} → Result T StepEnd → Result T EvalEnd
lifted (Ok x) = Ok x
lifted (Err e) = Err (end_of_step e)

-- the answers of which something is claimed: those that include what the library tells; where it has stopped, just what it tells
abbrev pub Covers : {T : Type 0} → Option Answers → Result T EvalEnd → Answers → Type 0
Covers told (Ok x) a = Includes told a
Covers told (Err (Wrong fault)) a = Includes told a
Covers told (Err (Spoiled path place)) a = Includes told a
Covers told (Err Stopped) a = told ≡ Some a
Covers told (Err Memory) a = ⊥

-- what has been asked where an evaluation stops at a question, behind what was asked before: an import asks for the content of its file first
abbrev pub asked_until : Question → List Question → List Question
asked_until (content_of path) asked = asked ++ content_of path ∷ []
asked_until (import_of path) asked = (asked ++ content_of path ∷ []) ++ import_of path ∷ []

-- an evaluation without a value ends with its first fault, at the first import that can't be used, or at the need that the library has noted; the
-- effects have all that it asked
abbrev pub IsFailure : {A : Type 0} → Need → EvalEnd → Effects → Run A → Type 0
IsFailure need (Wrong fault) out run = run ≡ record { end = wrong fault; asked = out.asked }
IsFailure need (Spoiled path place) out run = run ≡ record { end = spoiled path place; asked = out.asked }
IsFailure need Stopped out run = run ≡ record { end = needs need.question need.place; asked = asked_until need.question out.asked }
IsFailure need Memory out run = Unit {0}

-- what the program answers is the run
abbrev pub IsRun : {A T : Type 0} → (T → A) → Need → Result T EvalEnd → Environment → Effects → Run (Left A) → Type 0
IsRun view need (Ok x) env out run = run ≡ ends (view x) env out
IsRun view need (Err e) env out run = IsFailure need e out run

-- the same where the environment is spent
abbrev pub HasLeft : {A : Type 0} → A → Effects → Run (Left A) → Type 0
HasLeft value out run = (env : Environment) × (run ≡ ends value env out)

abbrev pub IsSpentRun : {A T : Type 0} → (T → A) → Need → Result T EvalEnd → Effects → Run (Left A) → Type 0
IsSpentRun view need (Ok x) out run = HasLeft (view x) out run
IsSpentRun view need (Err e) out run = IsFailure need e out run

-- what an evaluation over a library comes to, in one word: what is claimed over all answers of which something is claimed; the library goes on, and has
-- counted a stop where it has stopped
pub record Claims {T : Type 0} (before after : LibraryState) (result : Result T EvalEnd) (claim : Answers → Type 0) : Type 0 where
  pub runs : (a : Answers) → Covers after.told result a → claim a
  pub goes : GoesOn before after
  pub rose : result ≡ Err Stopped → before.stops < after.stops

-- it is the run
abbrev pub Evaluates : {A T : Type 0} → (T → A) → LibraryState → LibraryState → Result T EvalEnd → Environment → Effects → (Answers → Run (Left A)) → Type 0
Evaluates view before after result env out run = Claims before after result (λ a. IsRun view after.need result env out (run a))

abbrev pub EvaluatesSpent : {A T : Type 0} → (T → A) → LibraryState → LibraryState → Result T EvalEnd → Effects → (Answers → Run (Left A)) → Type 0
EvaluatesSpent view before after result out run = Claims before after result (λ a. IsSpentRun view after.need result out (run a))

-- the end where the import of the file at a path can't be used, whose call stands at the place: it was asked for; or want of memory
abbrev pub IsSpoiled : EvalEnd → List ℕ → Place → Effects → Effects → Type 0
IsSpoiled (Wrong fault) path place before after = ⊥
IsSpoiled (Spoiled p q) path place before after = (p ≡ path) × (q ≡ place) × (after ≡ with_asked (import_of path) (with_asked (content_of path) before))
IsSpoiled Stopped path place before after = ⊥
IsSpoiled Memory path place before after = Unit {0}
