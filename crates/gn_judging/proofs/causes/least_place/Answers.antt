use Rattle.std.proofs.Common.{ap, arith}
use Rattle.gn_paths.specs.declared.place.Place.{Place}
use Rattle.gn_core.specs.Machine.{import_limit}
use Rattle.gn_book.specs.Keys.{layer_at}
use Rattle.gn_judging.proofs.LinkLemmas.{least_from, one_left_less, none_linked, none_left_over, fault_no_link}
use Rattle.gn_judging.proofs.causes.least_place.Goals as goal

pub loop-step-init : goal.loop-step-init
loop-step-init c =
    (import_limit, omega arith, ap (λ (p : Place). least_from (layer_at c.args.when c.args.toolchain.now) c.args.book.now p import_limit c.args.path.now) c.in_ok-least.ensures)

pub loop-step-preserved : goal.loop-step-preserved
loop-step-preserved c =
    let leads = rw c.in-Import.is at c.in_ok-next.ensures in
    one_left_less (layer_at c.args.when c.args.toolchain.now) c.args.book.now c.loop-step._step import_limit c.loop-step.least c.args.place.now c.loop-step.at.now c.args.path.now _ _ c.in_ok-least-in-Import.least
    c.loop-step-test.true leads c.in_ok-least-in-Import.ensures c.loop-step.invariant

pub returns-in-Fault : goal.returns-in-Fault
returns-in-Fault c =
    none_linked (layer_at c.args.when c.args.toolchain.now) c.args.book.now c.loop-step._step import_limit c.loop-step.least c.args.place.now c.loop-step.at.now c.args.path.now
    (fault_no_link _ _ (rw c.in-Fault.is at c.in_ok-next.ensures)) c.loop-step.invariant

pub returns-in-Nothing : goal.returns-in-Nothing
returns-in-Nothing c =
    let none = rw c.in-Nothing.is at c.in_ok-next.ensures in
    none_linked (layer_at c.args.when c.args.toolchain.now) c.args.book.now c.loop-step._step import_limit c.loop-step.least c.args.place.now c.loop-step.at.now c.args.path.now none.0 c.loop-step.invariant

pub returns : goal.returns
returns c =
    none_left_over (layer_at c.args.when c.args.toolchain.now) c.args.book.now c.loop-step._step import_limit c.loop-step.least c.args.place.now c.loop-step.at.now c.args.path.now c.loop-step-test.false c.loop-step.invariant
