-- What a library tells, and how evaluations over it fail.
use Rattle.std.proofs.Common.{◌≡◌, Option, Some, Result, Ok, Err, sym, ap, ◌∙◌, subst, arith}
use Rattle.gn_items.specs.Effects.{Effects}
use Rattle.gn_runs.specs.Runs.{Answers, Run}
use Rattle.gn_runs.proofs.TreeLaws.{below_itself}
use Rattle.gn_environment.specs.Environment.{Environment}
use Rattle.gn_meaning.specs.Steps.{Left, then_do}
use Rattle.gn_eval.specs.Library.{LibraryState, Need, Includes, GoesOn}
use Rattle.gn_eval.specs.Ends.{Covers, IsFailure}
use Rattle.gn_eval.specs.declared.ending.EvalEnd.{EvalEnd}
use Rattle.gn_eval.specs.declared.ending.EvalEnd.TheVariants.{Wrong, Spoiled, Stopped, Memory}

-- answers that are told include what is told
pub told_included : (told : Option Answers) (a : Answers) → told ≡ Some a → Includes told a
told_included told a h = subst (λ (t : Option Answers). Includes t a) (sym h) (below_itself a)

-- answers of which something is claimed include what is told
pub covered : {T : Type 0} (told : Option Answers) (result : Result T EvalEnd) (a : Answers) → Covers told result a → Includes told a
covered told (Ok x) a h = h
covered told (Err (Wrong fault)) a h = h
covered told (Err (Spoiled path place)) a h = h
covered told (Err Stopped) a h = told_included told a h
covered told (Err Memory) a h = absurd h

-- what is claimed of a failure is the same for every kind of result
pub covers_error : (T U : Type 0) (told : Option Answers) (e : EvalEnd) (a : Answers) → Covers {T = T} told (Err e) a → Covers {T = U} told (Err e) a
covers_error T U told (Wrong fault) a h = h
covers_error T U told (Spoiled path place) a h = h
covers_error T U told Stopped a h = h
covers_error T U told Memory a h = h

-- answers that include what is told later include what was told before
pub told_before : {s t : LibraryState} → GoesOn s t → (a : Answers) → Includes t.told a → Includes s.told a
told_before goes a h = subst (λ (x : Option Answers). Includes x a) goes.told h

-- a library that goes on, and on from there
pub goes_on_further : (s t u : LibraryState) → GoesOn s t → GoesOn t u → GoesOn s u
goes_on_further s t u first second = record {
  told = second.told ∙ first.told;
  later = omega (arith, first.later, second.later);
  references = second.references ∙ first.references;
}

-- what fails, fails whatever comes behind it
pub then_failed : {A B : Type 0} (need : Need) (e : EvalEnd) (out : Effects) (run : Run (Left A)) (g : A → Environment → Effects → Run (Left B)) → IsFailure need e out run → IsFailure need e out (then_do run g)
then_failed {A = A} need (Wrong fault) out run g h = ap (λ (r : Run (Left A)). then_do r g) h
then_failed {A = A} need (Spoiled path place) out run g h = ap (λ (r : Run (Left A)). then_do r g) h
then_failed {A = A} need Stopped out run g h = ap (λ (r : Run (Left A)). then_do r g) h
then_failed need Memory out run g h = tt
