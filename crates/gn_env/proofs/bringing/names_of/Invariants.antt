use Rattle.std.proofs.Common.{◌≡◌, ◌++◌, map, drop}
use Rattle.gn_values.specs.View.{entry_of}
use Rattle.gn_env.proofs.bringing.names_of.Given as goal

abbrev pub invariant-loop-entry : goal.invariant-loop-entry
invariant-loop-entry l =
    map (λ n. n.now) l.names.items ++ map (λ e. e.0) (map entry_of (drop l.entry-index l.entries)) ≡ map (λ e. e.0) (map entry_of l.entries)
