use Rattle.std.proofs.Common.{◌≡◌, ◌++◌, map, drop}
use Rattle.gn_values.specs.View.{entry_of}
use Rattle.gn_environment.specs.Giving.{entries_at}
use Rattle.gn_callers.specs.Origins.{origin_of, value_from}
use Rattle.gn_callers.proofs.callers.Callers.copies_from.Given as goal

abbrev pub invariant-loop-name : goal.invariant-loop-name
invariant-loop-name l =
    let value = value_from (origin_of l.from) l.self in
    map entry_of l.entries.items ++ entries_at value (map (λ n. n.now) (drop l.name-index l.names)) ≡ entries_at value (map (λ n. n.now) l.names)
