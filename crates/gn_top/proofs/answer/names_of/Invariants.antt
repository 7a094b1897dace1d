use Rattle.std.proofs.Common.{◌≡◌, take, map}
use Rattle.gn_items.specs.declared.declaration.Declaration.{Declaration}
use Rattle.gn_top.proofs.answer.names_of.Given as goal

abbrev pub invariant-loop-declaration : goal.invariant-loop-declaration
invariant-loop-declaration l = l.names ≡ map (λ (d : Declaration). d.name) (map (λ d. d.now) (take l.declaration-index l.declarations))
