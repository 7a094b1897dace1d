use Rattle.std.proofs.Common.{◌≡◌, drop}
use Rattle.gn_build_faults.specs.Outputs.{with_each}
use Rattle.gn_build_faults.proofs.made.add_texts.Given as goal

abbrev pub invariant-loop-output : goal.invariant-loop-output
invariant-loop-output l = with_each l.made.keys (drop l.output-index l.outputs) ≡ with_each l.initial.made.keys l.outputs
