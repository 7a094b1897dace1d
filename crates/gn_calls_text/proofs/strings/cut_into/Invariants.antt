use Rattle.std.proofs.Common.{◌≡◌, ◌++◌}
use Rattle.gn_calls_text.specs.Calls.{text_list}
use Rattle.gn_calls_text.specs.Pieces.{cut}
use Rattle.gn_calls_text.proofs.strings.cut_into.Given as goal

abbrev pub invariant-loop-left : goal.invariant-loop-left
invariant-loop-left l = l.pieces ++ text_list (cut l.left l.separator l.rest) ≡ l.fn.pieces ++ text_list (cut l.count l.separator l.source)

abbrev pub decreases-loop-left : goal.decreases-loop-left
decreases-loop-left l = l.left
