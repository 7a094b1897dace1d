use Rattle.std.proofs.Common.{◌≡◌, map, drop}
use Rattle.gn_environment.specs.Environment.{fixed_value}
use Rattle.gn_kept.proofs.scopes.fixed_value.Given as goal

abbrev pub invariant-loop-scope : goal.invariant-loop-scope
invariant-loop-scope l =
    fixed_value l.name (map (λ f. f.value) (drop l.scope-index l.scopes)) ≡ fixed_value l.name (map (λ f. f.value) l.scopes)
