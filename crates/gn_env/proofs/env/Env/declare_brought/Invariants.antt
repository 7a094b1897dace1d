use Rattle.std.proofs.Common.{◌≡◌, map, drop}
use Rattle.gn_environment.specs.Declaring.{brought}
use Rattle.gn_env.specs.Arguments.{brought_state}
use Rattle.gn_env.proofs.env.Env.declare_brought.Given as goal

abbrev pub invariant-loop-place : goal.invariant-loop-place
invariant-loop-place l =
    brought (map brought_state (drop l.place-index l.places)) l.self ≡ brought (map brought_state l.places) l.fn.self
