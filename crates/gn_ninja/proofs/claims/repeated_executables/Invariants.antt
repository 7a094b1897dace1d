use Rattle.std.proofs.Common.{take, map}
use Rattle.gn_ninja.specs.Claims.{claimant, AreNoted, executable_names}
use Rattle.gn_ninja.proofs.claims.repeated_executables.Given as goal

abbrev pub invariant-loop-target : goal.invariant-loop-target
invariant-loop-target l = AreNoted (executable_names (map claimant (take l.target-index l.targets))) l.once l.again
