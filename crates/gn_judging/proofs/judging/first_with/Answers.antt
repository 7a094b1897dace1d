use Rattle.std.proofs.Common.{Option, Some, refl, sym, ◌∙◌, subst}
use Rattle.gn_faults.specs.declared.fault.Fault.{Fault}
use Rattle.gn_judging.specs.Judging.{IsFirst}
use Rattle.gn_judging.proofs.JudgingLemmas.{first_none, first_new, first_old}
use Rattle.gn_judging.proofs.judging.first_with.Goals as goal

pub returns-in-None : goal.returns-in-None
returns-in-None c = subst (λ (f : Option Fault). IsFirst f (Some c.args.fault) (Some c.args.fault)) (sym c.in-None.is) (first_none c.args.fault c.args.fault refl)

pub returns-then-before : goal.returns-then-before
returns-then-before c =
    subst (λ (f : Option Fault). IsFirst f (Some c.args.fault) (Some c.args.fault)) (sym c.in-Some.is)
    (first_new (record { strict = c.fault_order_is_strict.ensures; transitive = c.fault_order_is_transitive.ensures; total = c.fault_order_has_no_ties.ensures }) c.in-Some.first c.args.fault c.args.fault (sym c.before-in-Some.ensures ∙ c.if-before.true) refl)

pub returns-else-before : goal.returns-else-before
returns-else-before c =
    subst (λ (f : Option Fault). IsFirst f (Some c.args.fault) (Some c.in-Some.first)) (sym c.in-Some.is)
    (first_old (record { strict = c.fault_order_is_strict.ensures; transitive = c.fault_order_is_transitive.ensures; total = c.fault_order_has_no_ties.ensures }) c.in-Some.first c.args.fault c.in-Some.first (sym c.before-in-Some.ensures ∙ c.if-before.false) refl)
