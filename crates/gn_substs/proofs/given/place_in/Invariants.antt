use Rattle.std.proofs.Common.{◌≡◌, ◌+◌, ◌≤◌, drop, length}
use Rattle.gn_substs.specs.Expansions.{place_in}
use Rattle.gn_substs.proofs.given.place_in.Given as goal

abbrev pub invariant-loop-name : goal.invariant-loop-name
invariant-loop-name l = (l.place + place_in (drop l.name-index l.names) l.substitution ≡ place_in l.names l.substitution) × (l.place ≡ l.name-index)
