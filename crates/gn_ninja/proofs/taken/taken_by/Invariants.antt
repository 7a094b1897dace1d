use Rattle.std.proofs.Common.{◌≡◌, take, map}
use Rattle.gn_ninja.specs.Taken.{taken_by}
use Rattle.gn_ninja.proofs.taken.taken_by.Given as goal

abbrev pub invariant-loop-target : goal.invariant-loop-target
invariant-loop-target l = l.taken ≡ taken_by (map (λ t. t.now) (take l.target-index l.targets))
