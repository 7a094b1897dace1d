use Rattle.std.proofs.Common.{refl, subst, ◌≡◌, ℕ, Some, arith}
use Rattle.gn_imports.specs.Causes.{led}
use Rattle.gn_core.specs.Machine.{import_limit}
use Rattle.gn_book.specs.Keys.{layer_at}
use Rattle.gn_builds.specs.Causes.{link_at}
use Rattle.gn_judging.proofs.LinkLemmas.{leads_somewhere, next_unusable, next_led, followed_on}
use Rattle.gn_judging.proofs.causes.follow.Goals as goal

pub loop-step-init : goal.loop-step-init
loop-step-init c = record { leads = refl; unusable = c.requires.unusable }

pub loop-step-preserved : goal.loop-step-preserved
loop-step-preserved c =
    let leads = rw c.in-Import.is at c.in_ok-next.ensures in
    let layer = layer_at c.args.when c.args.toolchain.now in
    let start = c.requires.rest.0 in
    let rests = c.requires.rest.1 in
    record {
      leads = next_led c.links_lead_to_the_fault.ensures.links c.files_were_read.ensures start layer c.args.book.now rests c.args.path.now c.loop-step.at.now _ _ leads c.loop-step._step c.loop-step.invariant.leads;
      unusable = next_unusable c.links_lead_to_the_fault.ensures.links c.files_were_read.ensures start layer c.args.book.now rests c.args.path.now c.loop-step.at.now _ _ leads;
    }

pub returns-in-Fault : goal.returns-in-Fault
returns-in-Fault c =
    let is = rw c.in-Fault.is at c.in_ok-next.ensures in
    (c.loop-step._step, c.loop-step.at.now, is.0, c.loop-step.invariant.leads, is.1, is.2)

pub unreachable-requires : goal.unreachable-requires
unreachable-requires c = leads_somewhere (layer_at c.args.when c.args.toolchain.now) c.args.book.now c.loop-step.at.now c.loop-step.invariant.unusable (rw c.in-Nothing.is at c.in_ok-next.ensures)

pub returns : goal.returns
returns c =
    let all : c.loop-step._step ≡ import_limit = omega (arith, c.loop-step.auto._step-end, c.loop-step-test.false) in
    followed_on (layer_at c.args.when c.args.toolchain.now) c.args.book.now c.args.path.now c.loop-step.at.now c.loop-step.invariant.unusable
    (subst (λ (n : ℕ). led (link_at (layer_at c.args.when c.args.toolchain.now) c.args.book.now) n c.args.path.now ≡ Some c.loop-step.at.now) all c.loop-step.invariant.leads) c.led_at-2.result c.led_at-2.ensures
