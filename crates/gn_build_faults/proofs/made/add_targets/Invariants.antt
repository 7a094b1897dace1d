use Rattle.std.proofs.Common.{◌≡◌, drop}
use Rattle.gn_toolchains.specs.Frames.{known_of}
use Rattle.gn_build_faults.specs.Made.{outputs_among}
use Rattle.gn_build_faults.proofs.made.add_targets.Given as goal

abbrev pub invariant-loop-target : goal.invariant-loop-target
invariant-loop-target l =
    outputs_among l.items (known_of l.frames) l.made.keys (drop l.target-index l.targets) ≡ outputs_among l.items (known_of l.frames) l.initial.made.keys l.targets
