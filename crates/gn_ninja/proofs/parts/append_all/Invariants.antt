use Rattle.std.proofs.Common.{◌≡◌, ◌++◌, take, map}
use Rattle.std.specs.List.{flat_map}
use Rattle.gn_ninja.specs.Format.{spaced}
use Rattle.gn_ninja.proofs.parts.append_all.Given as goal

abbrev pub invariant-loop-path : goal.invariant-loop-path
invariant-loop-path l = l.text.items ≡ l.fn.text.items ++ flat_map spaced (map (λ t. t.now) (take l.path-index l.paths))
