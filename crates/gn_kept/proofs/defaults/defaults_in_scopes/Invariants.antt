use Rattle.std.proofs.Common.{◌≡◌, map, drop}
use Rattle.gn_definitions.specs.Imported.{ScopeState}
use Rattle.gn_environment.specs.Templates.{defaults_among}
use Rattle.gn_kept.proofs.defaults.defaults_in_scopes.Given as goal

abbrev pub invariant-loop-scope : goal.invariant-loop-scope
invariant-loop-scope l =
    defaults_among l.kind (map (λ (s : ScopeState). s.defaults) (map (λ s. s.value) (drop l.scope-index l.scopes))) ≡ defaults_among l.kind (map (λ (s : ScopeState). s.defaults) (map (λ s. s.value) l.scopes))
