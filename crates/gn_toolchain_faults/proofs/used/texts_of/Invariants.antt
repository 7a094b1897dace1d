use Rattle.std.proofs.Common.{◌≡◌, [], drop}
use Rattle.gn_toolchains.specs.Frames.{with_toolchains}
use Rattle.gn_toolchain_faults.proofs.used.texts_of.Given as goal

abbrev pub invariant-loop-target : goal.invariant-loop-target
invariant-loop-target l = with_toolchains l.texts.keys (drop l.target-index l.targets) ≡ with_toolchains [] l.targets
