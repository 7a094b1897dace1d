use Rattle.std.proofs.Common.{◌≡◌, ◌∷◌, ◌++◌, map, drop}
use Rattle.gn_values.specs.View.{entry_of}
use Rattle.gn_environment.specs.Forwarding.{target_name}
use Rattle.gn_environment.specs.Giving.{entries_but}
use Rattle.gn_scopes.proofs.copies.copied_but.Given as goal

abbrev pub invariant-loop-entry : goal.invariant-loop-entry
invariant-loop-entry l =
    map entry_of l.copies.items ++ entries_but (target_name ∷ l.except) (map entry_of (drop l.entry-index l.entries)) ≡ entries_but (target_name ∷ l.except) (map entry_of l.entries)
