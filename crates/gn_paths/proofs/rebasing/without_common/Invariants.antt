use Rattle.std.proofs.Common.{◌≡◌, length}
use Rattle.gn_paths.specs.Rebase.{relative, parts, IsTrail}
use Rattle.gn_paths.proofs.rebasing.without_common.Given as goal

abbrev pub invariant-components : goal.invariant-components
invariant-components l =
    IsTrail l.base_rest × IsTrail l.path_rest × (relative (parts l.base) (parts l.path) ≡ relative (parts l.base_rest) (parts l.path_rest))

abbrev pub decreases-components : goal.decreases-components
decreases-components l = length l.base_rest
