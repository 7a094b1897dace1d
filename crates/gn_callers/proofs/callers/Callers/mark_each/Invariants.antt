use Rattle.std.proofs.Common.{◌≡◌, map, drop}
use Rattle.gn_environment.specs.Giving.{read_at}
use Rattle.gn_callers.proofs.callers.Callers.mark_each.Given as goal

abbrev pub invariant-loop-name : goal.invariant-loop-name
invariant-loop-name l =
    read_at (map (λ n. n.now) (drop l.name-index l.names)) l.self ≡ read_at (map (λ n. n.now) l.names) l.fn.self
