use Rattle.std.proofs.Common.{◌≤◌, ◌==◌, length, drop}
use Rattle.gn_calls_text.specs.Rows.{IsRow}
use Rattle.gn_calls_text.proofs.patterns.matches_by.Given as goal

abbrev pub invariant-loop-place : goal.invariant-loop-place
invariant-loop-place l = (l.place ≤ length l.text) × IsRow l.parts (l.place == 0) (drop l.place l.text) l.row

abbrev pub decreases-loop-place : goal.decreases-loop-place
decreases-loop-place l = l.place
