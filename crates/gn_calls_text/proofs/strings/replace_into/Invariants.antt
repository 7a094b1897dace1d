use Rattle.std.proofs.Common.{◌≡◌, ◌++◌}
use Rattle.gn_calls_text.specs.Pieces.{replaced}
use Rattle.gn_calls_text.proofs.strings.replace_into.Given as goal

abbrev pub invariant-loop-left : goal.invariant-loop-left
invariant-loop-left l = l.text ++ replaced l.left l.old l.new l.rest ≡ l.fn.text ++ replaced l.count l.old l.new l.source

abbrev pub decreases-loop-left : goal.decreases-loop-left
decreases-loop-left l = l.left
