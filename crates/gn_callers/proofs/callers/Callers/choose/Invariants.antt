use Rattle.std.proofs.Common.{◌≡◌, ◌++◌, map, drop}
use Rattle.gn_callers.specs.Origins.{origin_of, value_from, names_there}
use Rattle.gn_callers.proofs.callers.Callers.choose.Given as goal

abbrev pub invariant-loop-name : goal.invariant-loop-name
invariant-loop-name l =
    let value = value_from (origin_of l.from) l.self in
    map (λ n. n.now) l.chosen.items ++ names_there value (drop l.name-index l.name-items) l.except ≡ map (λ n. n.now) l.initial.chosen.items ++ names_there value l.name-items l.except
