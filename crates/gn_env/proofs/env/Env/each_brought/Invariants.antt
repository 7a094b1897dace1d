use Rattle.std.proofs.Common.{◌≡◌, ◌++◌, map, drop}
use Rattle.gn_environment.specs.Declaring.{place_brought}
use Rattle.gn_env.specs.Arguments.{brought_state}
use Rattle.gn_env.proofs.env.Env.each_brought.Given as goal

abbrev pub invariant-loop-name : goal.invariant-loop-name
invariant-loop-name l =
    map brought_state l.places.items ++ map (place_brought l.position l.self) (map (λ n. n.now) (drop l.name-index l.names)) ≡ map (place_brought l.position l.self) (map (λ n. n.now) l.names)
