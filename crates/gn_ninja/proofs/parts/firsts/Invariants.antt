use Rattle.std.proofs.Common.{◌≡◌, take, map}
use Rattle.std.specs.List.{flat_map}
use Rattle.gn_ninja.specs.Format.{firsts}
use Rattle.gn_ninja.specs.Code.{paths_of}
use Rattle.gn_ninja.proofs.parts.firsts.Given as goal

abbrev pub invariant-loop-group : goal.invariant-loop-group
invariant-loop-group l = (l.seen ≡ firsts (flat_map paths_of (take l.group-index l.groups))) × (map (λ t. t.now) l.paths.items ≡ l.seen)
