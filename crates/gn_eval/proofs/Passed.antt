-- What comes behind a step that has failed.
use Rattle.std.proofs.Common.{◌≡◌, Option, Result, Ok, Err, IsErrAnd, refl, sym, subst, arith}
use Rattle.gn_items.specs.Effects.{Effects}
use Rattle.gn_runs.specs.Runs.{Answers, Run}
use Rattle.gn_environment.specs.Environment.{Environment}
use Rattle.gn_meaning.specs.Steps.{Left, ends, then_do}
use Rattle.gn_steps.specs.declared.step.StepEnd.{StepEnd}
use Rattle.gn_steps.specs.declared.step.StepEnd.TheVariants as step
use Rattle.gn_steps.specs.Ends.{IsStep, IsStepFailure}
use Rattle.gn_eval.specs.Library.{Need, LibraryState, Includes, GoesOn}
use Rattle.gn_eval.specs.Ends.{end_of_step, lifted, Covers, IsFailure, IsRun, Claims, Evaluates}
use Rattle.gn_eval.specs.declared.ending.EvalEnd.{EvalEnd}
use Rattle.gn_eval.specs.declared.ending.EvalEnd.TheVariants.{Wrong, Spoiled, Stopped, Memory}
use Rattle.gn_eval.specs.Telling.{covered, told_before, goes_on_further, then_failed}

-- a library goes on that isn't asked
pub goes_on_still : (state : LibraryState) → GoesOn state state
goes_on_still state = record { told = refl; later = omega arith; references = refl }

-- of which answers something is claimed depends on the error alone
covers_error : (T U : Type 0) (told : Option Answers) (e : EvalEnd) (a : Answers) → Covers {T = T} told (Err e) a → Covers {T = U} told (Err e) a
covers_error T U told (Wrong fault) a h = h
covers_error T U told (Spoiled path place) a h = h
covers_error T U told Stopped a h = h
covers_error T U told Memory a h = h

-- an evaluation whose first step has failed
pub failed : {B T : Type 0} (U : Type 0) (view : T → B) (told : Option Answers) (need : Need) (result : Result T EvalEnd) (e : EvalEnd) (a : Answers) (env : Environment) (out : Effects) (run : Run (Left B)) → IsErrAnd result (λ y. y ≡ e) → (Covers {T = U} told (Err e) a → IsFailure need e out run) → Covers told result a → IsRun view need result env out run
failed U view told need (Ok x) e a env out run is fails h = absurd is
failed {T = T} U view told need (Err y) e a env out run is fails h =
    subst (λ (z : EvalEnd). IsFailure need z out run) (sym is) (fails (covers_error T U told e a (subst (λ (z : EvalEnd). Covers {T = T} told (Err z) a) is h)))

-- a step that asks nothing is claimed of the library as it stands
pub step_claims : {A T : Type 0} (view : T → A) (state : LibraryState) (done : Result T StepEnd) (env : Environment) (out : Effects) (run : Run (Left A)) → IsStep view done env out run → Claims state state (lifted done) (λ a. IsRun view state.need (lifted done) env out run)
step_claims view state (Ok x) env out run h = record { runs = λ a told. h; goes = goes_on_still state; rose = λ e. cc }
step_claims view state (Err (step.Wrong fault)) env out run h = record { runs = λ a told. h; goes = goes_on_still state; rose = λ e. cc }
step_claims view state (Err step.Memory) env out run h = record { runs = λ a told. tt; goes = goes_on_still state; rose = λ e. cc }

-- one that has failed
end_claims : {A T : Type 0} (view : T → A) (state : LibraryState) (e : StepEnd) (env : Environment) (out : Effects) (run : Answers → Run (Left A)) → ((a : Answers) → IsStepFailure e out (run a)) → Evaluates view state state (Err (end_of_step e)) env out run
end_claims view state (step.Wrong fault) env out run h = record { runs = λ a told. h a; goes = goes_on_still state; rose = λ e. cc }
end_claims view state step.Memory env out run h = record { runs = λ a told. tt; goes = goes_on_still state; rose = λ e. cc }

pub step_failed : {A T : Type 0} (view : T → A) (state : LibraryState) (e : StepEnd) (result : Result T EvalEnd) (env : Environment) (out : Effects) (run : Answers → Run (Left A)) → IsErrAnd result (λ y. y ≡ end_of_step e) → ((a : Answers) → IsStepFailure e out (run a)) → Evaluates view state state result env out run
step_failed view state e (Ok x) env out run is h = absurd is
step_failed view state e (Err y) env out run is h = subst (λ (z : EvalEnd). Evaluates view state state (Err z) env out run) (sym is) (end_claims view state e env out run h)

-- what is claimed of a run is claimed of one that is the same
pub same_claims : {A T : Type 0} (view : T → A) (before later : LibraryState) (result : Result T EvalEnd) (env : Environment) (out : Effects) (run other : Answers → Run (Left A)) → ((a : Answers) → run a ≡ other a) → Evaluates view before later result env out other → Evaluates view before later result env out run
same_claims {A} view before later result env out run other e h = record {
  runs = λ a told. subst (λ (r : Run (Left A)). IsRun view later.need result env out r) (sym (e a)) (h.runs a told);
  goes = h.goes;
  rose = h.rose;
}

-- an evaluation whose first step has failed, whatever would have come behind it
pub failed_claims : {A B T : Type 0} (U : Type 0) (view : T → B) (step_view : U → A) (before later : LibraryState) (result : Result T EvalEnd) (e : EvalEnd) (env : Environment) (out : Effects) (run : Answers → Run (Left A)) (next : Answers → A → Environment → Effects → Run (Left B)) → IsErrAnd result (λ y. y ≡ e) → Evaluates {T = U} step_view before later (Err e) env out run → Evaluates view before later result env out (λ a. then_do (run a) (next a))
failed_claims U view step_view before later (Ok x) e env out run next is h = absurd is
failed_claims {T = T} U view step_view before later (Err y) e env out run next is h = record {
  runs = λ a told. failed U view later.told later.need (Err y) e a env out (then_do (run a) (next a)) is (λ k. then_failed later.need e out (run a) (next a) (h.runs a k)) told;
  goes = h.goes;
  rose = λ k. h.rose (cc);
}

-- an evaluation whose first step has its value, and what comes behind it
pub ended_claims : {A B T : Type 0} (view : T → B) (before mid later : LibraryState) (result : Result T EvalEnd) (env : Environment) (out : Effects) (run : Answers → Run (Left A)) (next : Answers → A → Environment → Effects → Run (Left B)) (x : A) (env1 : Environment) (out1 : Effects) → ((a : Answers) → Includes mid.told a → run a ≡ ends x env1 out1) → GoesOn before mid → Evaluates view mid later result env out (λ a. next a x env1 out1) → Evaluates view before later result env out (λ a. then_do (run a) (next a))
ended_claims {A} {B} view before mid later result env out run next x env1 out1 first goes h = record {
  runs = λ a told.
      subst (λ (r : Run (Left A)). IsRun view later.need result env out (then_do r (next a))) (sym (first a (told_before h.goes a (covered later.told result a told)))) (h.runs a told);
  goes = goes_on_further before mid later goes h.goes;
  rose = λ e. omega (arith, goes.later, h.rose e);
}
