-- What has been asked where an item is defined.
use Rattle.std.proofs.Common.{◌≡◌, Bool, true, if◌then◌else◌, List, Result, Ok, Err, refl, sym, ap, subst, ◌∙◌}
use Rattle.std.specs.Result.{IsErrAnd}
use Rattle.gn_faults.specs.declared.fault.Fault.{Fault}
use Rattle.gn_items.specs.declared.item.Item.{Item}
use Rattle.gn_items.specs.Effects.{Effects, with_item, with_tool, with_defined}
use Rattle.gn_rows.specs.declared.kinds.ItemKind.{ItemKind}
use Rattle.gn_rows.specs.declared.kinds.ItemKind.TheVariants as kind
use Rattle.gn_runs.specs.Runs.{Question, wrong, Run}
use Rattle.gn_meaning.specs.Steps.{Left, breaks}
use Rattle.gn_environment.specs.Environment.{Environment}
use Rattle.gn_steps.specs.Ends.{IsFault, IsStepFailure, IsStep}
use Rattle.gn_steps.specs.declared.step.StepEnd.{StepEnd}
use Rattle.gn_steps.specs.declared.step.StepEnd.TheVariants as step

-- an item that is defined asks nothing
pub defined_asks_nothing : (k : ItemKind) (item : Item) (out : Effects) → (with_defined k item out).asked ≡ out.asked
unfolding with_item with_tool
defined_asks_nothing kind.Tool item out = refl
defined_asks_nothing kind.Toolchain item out = refl
defined_asks_nothing _ item out = refl

-- a failure is the same behind other effects that have asked the same
pub failed_as_well : {A : Type 0} (end : StepEnd) (out other : Effects) (run : Run (Left A)) → other.asked ≡ out.asked → IsStepFailure end out run → IsStepFailure end other run
failed_as_well (step.Wrong fault) out other run same h = h ∙ ap (λ (asked : List Question). record { end = wrong fault; asked = asked }) (sym same)
failed_as_well step.Memory out other run same h = tt

-- the end with a fault
pub fails_so : (A : Type 0) (end : StepEnd) (fault : Fault) (out : Effects) → IsFault end fault → IsStepFailure {A = A} end out (breaks fault out)
fails_so A (step.Wrong f) fault out h = ap (λ (g : Fault). breaks {A = A} g out) (sym h)
fails_so A step.Memory fault out h = tt

pub fails_where : {A : Type 0} (b : Bool) (end : StepEnd) (out : Effects) (run other : Run (Left A)) → b ≡ true → IsStepFailure end out run → IsStepFailure end out (if b then run else other)
fails_where b end out run other is h = subst (λ (c : Bool). IsStepFailure end out (if c then run else other)) (sym is) h

-- a failure that leaves a step
pub leaves_so : {A T : Type 0} (view : T → A) (r : Result T StepEnd) (end : StepEnd) (env : Environment) (out : Effects) (run : Run (Left A)) → IsErrAnd r (λ e. e ≡ end) → IsStepFailure end out run → IsStep view r env out run
leaves_so view (Ok x) end env out run is h = absurd is
leaves_so view (Err e) end env out run is h = subst (λ (x : StepEnd). IsStepFailure x out run) (sym is) h
