use Rattle.std.proofs.Common.{◌∙◌}
use Rattle.gn_tokens.proofs.Scans.{too_great}
use Rattle.gn_tokens.proofs.number.magnitude.Goals as goal

pub returns-then-n-digit : goal.returns-then-n-digit
returns-then-n-digit c = too_great c.loop-b.n c.loop-b.b-index c.from-digit.result c.args.digits.now c.loop-b-test.true (c.from-digit.ensures ∙ c.saturating_sub.ensures)
    c.if-n-digit.true c.loop-b.invariant.value
