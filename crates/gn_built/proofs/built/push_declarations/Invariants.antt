use Rattle.std.proofs.Common.{◌≡◌, ◌++◌, map, take}
use Rattle.gn_built.proofs.built.push_declarations.Given as goal

abbrev pub invariant-loop-declaration : goal.invariant-loop-declaration
invariant-loop-declaration l = map (λ d. d.now) l.declared.items ≡ map (λ d. d.now) l.initial.declared.items ++ take l.declaration-index l.declarations
