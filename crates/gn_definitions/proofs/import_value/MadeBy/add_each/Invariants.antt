use Rattle.std.proofs.Common.{◌≡◌}
use Rattle.gn_values.specs.Tables.{with_new_names}
use Rattle.gn_definitions.specs.TakenOut.{without_names}
use Rattle.gn_basics.proofs.Tables.{seen}
use Rattle.gn_definitions.proofs.import_value.MadeBy.add_each.Given as goal

-- the rest added leads to all of them added, and what was added so far taken out leads back
abbrev pub invariant-loop-execution : goal.invariant-loop-execution
invariant-loop-execution l =
    (with_new_names (seen (λ d. d.value) l.execution-iterator) l.self ≡ with_new_names l.fn.others l.fn.self)
    × (without_names l.added.items l.self ≡ without_names l.fn.added.items l.fn.self)
