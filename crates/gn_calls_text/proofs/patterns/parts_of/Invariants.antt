use Rattle.std.proofs.Common.{◌≡◌, ◌++◌, length}
use Rattle.gn_calls_text.specs.Patterns.{parts_of}
use Rattle.gn_calls_text.proofs.patterns.parts_of.Given as goal

abbrev pub invariant-loop-part : goal.invariant-loop-part
invariant-loop-part l = l.parts.items ++ parts_of l.rest ≡ parts_of l.pattern

abbrev pub decreases-loop-part : goal.decreases-loop-part
decreases-loop-part l = length l.rest
