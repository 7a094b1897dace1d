use Rattle.std.proofs.Common.{◌≡◌, ◌++◌, take}
use Rattle.gn_kept.proofs.definitions.copy_places.Given as goal

abbrev pub invariant-loop-place : goal.invariant-loop-place
invariant-loop-place l = l.places.items ≡ l.fn.places.items ++ take l.place-index l.others
