use Rattle.std.proofs.Common.{◌∙◌}
use Rattle.std.proofs.lemmas.Result.{IfOk-weaker}
use Rattle.gn_book.specs.Keys.{layer_at}
use Rattle.gn_judging.proofs.LinkLemmas.{fault_is_cause, cycle_is_cause}
use Rattle.gn_judging.proofs.causes.cause.Goals as goal

pub returns-in-Fault : goal.returns-in-Fault
returns-in-Fault c =
    let is = rw c.in-Fault.is at c.in_ok-fault.ensures in
    IfOk-weaker c.copy.result _ _
    (λ f same files rest. same ∙ fault_is_cause files (layer_at c.args.when c.args.toolchain.now) c.args.book.now rest c.args.shown.now c.args.path.now c.links_lead_to_the_fault.ensures.wrong _ is) c.copy.ensures

pub returns-in-Import : goal.returns-in-Import
returns-in-Import c =
    let is = rw c.in-Import.is at c.in_ok-fault.ensures in
    IfOk-weaker c.round.result _ _
    (λ f same files rest. same ∙ cycle_is_cause files (layer_at c.args.when c.args.toolchain.now) c.args.book.now rest c.args.shown.now c.args.path.now c.links_lead_to_the_fault.ensures.round c.requires.small c.requires.unusable is.0 _ _ is.1 is.2)
    c.round.ensures

pub unreachable-requires : goal.unreachable-requires
unreachable-requires c = rw c.in-Nothing.is at c.in_ok-fault.ensures
