use Rattle.std.proofs.Common.{◌≡◌, drop}
use Rattle.gn_calls_path.specs.Labels.{some_matches}
use Rattle.gn_calls_path.proofs.labels.some_matches.Given as goal

abbrev pub invariant-loop-pattern : goal.invariant-loop-pattern
invariant-loop-pattern l = some_matches l.label (drop l.pattern-index l.patterns) ≡ some_matches l.label l.patterns
