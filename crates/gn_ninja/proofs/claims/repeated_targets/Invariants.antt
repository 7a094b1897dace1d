use Rattle.std.proofs.Common.{take, map}
use Rattle.gn_ninja.specs.Claims.{claimant, AreNoted, names_of}
use Rattle.gn_ninja.proofs.claims.repeated_targets.Given as goal

abbrev pub invariant-loop-target : goal.invariant-loop-target
invariant-loop-target l = AreNoted (names_of (map claimant (take l.target-index l.targets))) l.once l.again
