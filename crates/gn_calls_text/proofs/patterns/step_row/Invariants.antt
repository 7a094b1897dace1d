use Rattle.std.proofs.Common.{◌≡◌, ℕ, ◌+◌, ◌≤◌, false, List, length}
use Rattle.gn_calls_text.specs.Rows.{IsRow}
use Rattle.gn_calls_text.proofs.RowLemmas.{IsStepped}
use Rattle.gn_calls_text.proofs.patterns.step_row.Given as goal

abbrev pub invariant-loop-place : goal.invariant-loop-place
invariant-loop-place l =
    (l.place ≤ length l.parts) × ((length l.row ≡ length l.parts + 1) × ((more : List ℕ) → IsRow l.parts false more l.fn.row → IsStepped l.parts l.first l.byte more l.behind l.row l.place))

abbrev pub decreases-loop-place : goal.decreases-loop-place
decreases-loop-place l = l.place
