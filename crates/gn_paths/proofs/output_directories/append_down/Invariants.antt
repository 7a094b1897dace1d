use Rattle.std.proofs.Common.{◌≡◌, ◌++◌, length}
use Rattle.std.specs.List.{filter}
use Rattle.gn_paths.specs.Components.{trail}
use Rattle.gn_paths.specs.Directory.{leads_down}
use Rattle.gn_paths.specs.Rebase.{IsTrail, parts}
use Rattle.gn_paths.proofs.output_directories.append_down.Given as goal

abbrev pub invariant-components : goal.invariant-components
invariant-components l =
    IsTrail l.rest × (l.text.items ++ trail (filter leads_down (parts l.rest)) ≡ l.fn.text.items ++ trail (filter leads_down (parts l.path)))

abbrev pub decreases-components : goal.decreases-components
decreases-components l = length l.rest
