use Rattle.std.proofs.Common.{[], Option, None, refl, sym, ap, subst}
use Rattle.std.proofs.lemmas.Result.{IfOk-weaker}
use Rattle.gn_definitions.specs.Imported.{ImportState}
use Rattle.gn_book.specs.Keys.{layer_at}
use Rattle.gn_answers.specs.Answers.{run_of, unit_left}
use Rattle.gn_judging.specs.Judging.{fault_list, IsFaultAt}
use Rattle.gn_answers.specs.declared.answer.Executed.{Executed}
use Rattle.gn_judging.proofs.judging.fault_by.Goals as goal

pub spoiling_fault-requires-clause-unusable : goal.spoiling_fault-requires-clause-unusable
spoiling_fault-requires-clause-unusable c = c.requires.unusable _ _ (ap (λ (x : Executed (Option ImportState)). (run_of unit_left x).end) c.in-Spoiled.is)

pub returns-in-Left : goal.returns-in-Left
returns-in-Left c = subst (λ (x : Executed (Option ImportState)). IsFaultAt c.args.book.now (layer_at c.args.when c.args.toolchain.now) (run_of unit_left x).end None) (sym c.in-Left.is) (λ files rest. refl)

pub returns-in-Wrong : goal.returns-in-Wrong
returns-in-Wrong c =
    IfOk-weaker c.copy_fault.result _ _
    (λ copied is. subst (λ (x : Executed (Option ImportState)). IsFaultAt c.args.book.now (layer_at c.args.when c.args.toolchain.now) (run_of unit_left x).end copied) (sym c.in-Wrong.is) (λ files rest. ap fault_list (sym is)))
    c.copy_fault.ensures

pub returns-in-Spoiled : goal.returns-in-Spoiled
returns-in-Spoiled c =
    IfOk-weaker c.spoiling_fault.result _ _
    (λ fault is. subst (λ (x : Executed (Option ImportState)). IsFaultAt c.args.book.now (layer_at c.args.when c.args.toolchain.now) (run_of unit_left x).end fault) (sym c.in-Spoiled.is) (is (record { file = []; line = 0; column = 0 })))
    c.spoiling_fault.ensures
