use Rattle.std.proofs.Common.{◌≡◌, ◌++◌, take, map}
use Rattle.std.specs.List.{flat_map}
use Rattle.gn_ninja.specs.Claims.{claimant, claims_in, is_one_of}
use Rattle.gn_ninja.proofs.claims.add_classes.Given as goal

abbrev pub invariant-loop-class : goal.invariant-loop-class
invariant-loop-class l =
    l.claims.items ≡ l.fn.claims.items ++ flat_map (claims_in (is_one_of l.repeated.executables) (is_one_of l.repeated.targets) (map claimant l.targets)) (take l.class-index l.classes)
