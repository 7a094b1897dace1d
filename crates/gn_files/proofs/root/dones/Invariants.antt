use Rattle.std.proofs.Common.{◌≡◌, take, map}
use Rattle.gn_ninja.specs.Claims.{claimant}
use Rattle.gn_files.proofs.root.dones.Given as goal

abbrev pub invariant-loop-target : goal.invariant-loop-target
invariant-loop-target l = l.files ≡ map (λ c. c.done) (map claimant (take l.target-index l.targets))
