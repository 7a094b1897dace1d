use Rattle.std.proofs.Common.{◌≡◌, [], map, drop}
use Rattle.gn_values.specs.View.{val_of}
use Rattle.gn_calls_scopes.proofs.Gathered.{gathered}
use Rattle.gn_calls_scopes.proofs.selections.texts_in.Given as goal

abbrev pub invariant-loop-value : goal.invariant-loop-value
invariant-loop-value l = gathered l.texts (map val_of (drop l.value-index l.values)) ≡ gathered [] (map val_of l.values)
