use Rattle.std.proofs.Common.{◌≡◌, ◌++◌, map, take}
use Rattle.std.specs.List.{flat_map}
use Rattle.gn_projects.specs.Loaded.{lines}
use Rattle.gn_builds.specs.Rest.{effects_at}
use Rattle.gn_built.proofs.built.append_all.Given as goal

abbrev pub invariant-loop-number : goal.invariant-loop-number
invariant-loop-number l = l.text.items ≡ l.initial.text.items ++ flat_map lines (map (effects_at l.book) (take l.number-index l.numbers))
