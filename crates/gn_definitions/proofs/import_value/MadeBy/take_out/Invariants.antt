use Rattle.std.proofs.Common.{◌≡◌, vec_len}
use Rattle.gn_definitions.specs.TakenOut.{without_names}
use Rattle.gn_definitions.proofs.import_value.MadeBy.take_out.Given as goal

abbrev pub invariant-loop-execution : goal.invariant-loop-execution
invariant-loop-execution l = without_names l.added.items l.self ≡ without_names l.initial.added.items l.initial.self

abbrev pub decreases-loop-execution : goal.decreases-loop-execution
decreases-loop-execution l = vec_len l.added
