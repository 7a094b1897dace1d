use Rattle.std.proofs.Common.{◌≡◌, ◌++◌, true}
use Rattle.gn_values.specs.Limits.{list_fits}
use Rattle.gn_calls_text.specs.Calls.{text_list}
use Rattle.gn_calls_text.specs.Conversions.{lines_in}
use Rattle.gn_calls_text.specs.Pieces.{cut}
use Rattle.gn_calls_text.proofs.conversions.lines_into.Given as goal

abbrev pub invariant-loop-left : goal.invariant-loop-left
invariant-loop-left l =
    (l.lines ++ text_list (lines_in (cut l.left l.newline l.rest)) ≡ l.fn.lines ++ text_list (lines_in (cut l.count l.newline l.source)))
    × (list_fits l.lines ≡ true)

abbrev pub decreases-loop-left : goal.decreases-loop-left
decreases-loop-left l = l.left
