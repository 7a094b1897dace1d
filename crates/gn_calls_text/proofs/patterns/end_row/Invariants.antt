use Rattle.std.proofs.Common.{◌≡◌, ◌+◌, ◌≤◌, Bool, [], length}
use Rattle.gn_calls_text.proofs.RowLemmas.{FromPlace}
use Rattle.gn_calls_text.proofs.patterns.end_row.Given as goal

abbrev pub invariant-loop-place : goal.invariant-loop-place
invariant-loop-place l = (l.place ≤ length l.parts) × ((length l.row ≡ length l.parts + 1) × ((first : Bool) → FromPlace l.parts first [] l.row l.place))

abbrev pub decreases-loop-place : goal.decreases-loop-place
decreases-loop-place l = l.place
