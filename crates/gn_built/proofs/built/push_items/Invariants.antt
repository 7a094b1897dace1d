use Rattle.std.proofs.Common.{◌≡◌, ◌++◌, map, take}
use Rattle.gn_built.proofs.built.push_items.Given as goal

abbrev pub invariant-loop-item : goal.invariant-loop-item
invariant-loop-item l = map (λ d. d.now) l.defined.items ≡ map (λ d. d.now) l.initial.defined.items ++ take l.item-index l.items
