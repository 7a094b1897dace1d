use Rattle.gn_rules.specs.Least.{IsLeastMatched}
use Rattle.gn_rules.proofs.reaching.least_matched.Given as goal

abbrev pub invariant-loop-place : goal.invariant-loop-place
invariant-loop-place l = IsLeastMatched l.default l.patterns l.labels l.place l.best
