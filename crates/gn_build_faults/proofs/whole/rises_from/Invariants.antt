use Rattle.std.proofs.Common.{◌≡◌, drop}
use Rattle.gn_build_faults.specs.Whole.{rises_from}
use Rattle.gn_build_faults.proofs.whole.rises_from.Given as goal

abbrev pub invariant-loop-label : goal.invariant-loop-label
invariant-loop-label l = rises_from l.default l.last (drop l.label-index l.labels) ≡ rises_from l.default l.first l.labels
