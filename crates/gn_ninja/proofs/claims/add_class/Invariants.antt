use Rattle.std.proofs.Common.{◌≡◌, ◌++◌, take, map}
use Rattle.gn_ninja.specs.Claims.{claimant, claims_in, is_one_of}
use Rattle.gn_ninja.proofs.claims.add_class.Given as goal

abbrev pub invariant-loop-target : goal.invariant-loop-target
invariant-loop-target l =
    l.claims.items ≡ l.fn.claims.items ++ claims_in (is_one_of l.repeated.executables) (is_one_of l.repeated.targets) (map claimant (take l.target-index l.targets)) l.class
