use Rattle.std.proofs.Common.{◌≡◌, ℕ, suc, ◌-◌, length, Some, slice_get}
use Rattle.gn_graph.proofs.held.make_room.Given as goal

abbrev pub invariant-loop-n : goal.invariant-loop-n
invariant-loop-n l = record {
  at : l.n ≡ length l.places.items;
  same : (q i : ℕ) → slice_get l.initial.places.items q ≡ Some i → slice_get l.places.items q ≡ Some i;
}

abbrev pub decreases-loop-n : goal.decreases-loop-n
decreases-loop-n l = suc l.p - l.n
