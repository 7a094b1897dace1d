use Rattle.std.proofs.Common.{refl, sym, ◌∙◌, true≢false, arith}
use Rattle.gn_judging.proofs.LimitLemmas.{large_there, none_large, none_more}
use Rattle.gn_judging.proofs.limits.has_large_import.Goals as goal

pub loop-number-init : goal.loop-number-init
loop-number-init c = λ n less large. absurd (omega (arith, less))

pub loop-number-preserved : goal.loop-number-preserved
loop-number-preserved c = none_more c.args.book.now c.loop-number.number c.loop-number.invariant (λ large. absurd (true≢false (sym (c.in_ok-large.ensures.1 large) ∙ c.if-large.false)))

pub returns-then-large : goal.returns-then-large
returns-then-large c = ((λ e. large_there c.closed_imports_are_all.ensures.all c.args.book.now c.loop-number.number (c.in_ok-large.ensures.0 c.if-large.true)), (λ h. refl))

pub returns : goal.returns
returns c = (
  (λ e. absurd (true≢false (sym e))),
  (λ h. absurd (none_large c.args.book.now c.events-events.result.now c.events-events.ensures (λ n less large. c.loop-number.invariant n (omega (arith, less, c.loop-number-test.false)) large) h)),
)
