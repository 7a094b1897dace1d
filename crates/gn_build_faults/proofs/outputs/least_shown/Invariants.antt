use Rattle.std.proofs.Common.{◌≡◌, None, drop}
use Rattle.gn_build_faults.specs.Outputs.{least_shown}
use Rattle.gn_build_faults.proofs.outputs.least_shown.Given as goal

abbrev pub invariant-loop-output : goal.invariant-loop-output
invariant-loop-output l = least_shown l.build l.best (drop l.output-index l.outputs) ≡ least_shown l.build None l.outputs
