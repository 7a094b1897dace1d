use Rattle.std.proofs.Common.{◌≡◌, ◌++◌, map, take}
use Rattle.std.specs.List.{flat_map}
use Rattle.gn_items.specs.Effects.{Effects}
use Rattle.gn_builds.specs.Rest.{effects_at}
use Rattle.gn_built.proofs.built.push_all_declared.Given as goal

abbrev pub invariant-loop-number : goal.invariant-loop-number
invariant-loop-number l = map (λ d. d.now) l.declared.items ≡ map (λ d. d.now) l.initial.declared.items ++ flat_map (λ (e : Effects). e.declared) (map (effects_at l.book) (take l.number-index l.numbers))
