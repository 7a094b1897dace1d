use Rattle.std.proofs.Common.{◌≡◌, drop}
use Rattle.gn_build_faults.specs.Whole.{with_places}
use Rattle.gn_build_faults.proofs.whole.mark_all.Given as goal

abbrev pub invariant-loop-place : goal.invariant-loop-place
invariant-loop-place l = with_places l.marks (drop l.place-index l.places) ≡ with_places l.initial.marks l.places
