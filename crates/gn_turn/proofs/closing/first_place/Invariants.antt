use Rattle.std.proofs.Common.{◌≢◌, ◌<◌, ℕ, slice_index_or}
use Rattle.gn_turn.specs.Turns.{number_of}
use Rattle.gn_turn.proofs.closing.first_place.Given as goal

-- no seat before has the number 0
abbrev pub invariant-loop-place : goal.invariant-loop-place
invariant-loop-place g l = (k : ℕ) (d : _) → k < l.place → number_of (slice_index_or l.seats k d) ≢ 0
