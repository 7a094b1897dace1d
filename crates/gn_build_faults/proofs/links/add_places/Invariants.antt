use Rattle.std.proofs.Common.{◌≡◌, ◌++◌, take}
use Rattle.gn_build_faults.specs.Links.{places_of}
use Rattle.gn_build_faults.proofs.links.add_places.Given as goal

abbrev pub invariant-loop-label : goal.invariant-loop-label
invariant-loop-label l = l.places.items ≡ l.initial.places.items ++ places_of l.items (take l.label-index l.labels)
