use Rattle.std.proofs.Common.{◌≡◌, map, drop}
use Rattle.std.specs.List.{find}
use Rattle.gn_environment.specs.Forwarding.{is_set_here}
use Rattle.gn_env.proofs.env.Env.first_set.Given as goal

abbrev pub invariant-loop-name : goal.invariant-loop-name
invariant-loop-name l =
    find (is_set_here l.self) (map (λ n. n.now) (drop l.name-index l.names)) ≡ find (is_set_here l.self) (map (λ n. n.now) l.names)
