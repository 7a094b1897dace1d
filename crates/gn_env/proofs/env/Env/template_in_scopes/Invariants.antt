use Rattle.std.proofs.Common.{◌≡◌, map, drop}
use Rattle.gn_definitions.specs.Imported.{ScopeState}
use Rattle.gn_environment.specs.Templates.{template_among}
use Rattle.gn_env.proofs.env.Env.template_in_scopes.Given as goal

abbrev pub invariant-loop-scope : goal.invariant-loop-scope
invariant-loop-scope l =
    template_among l.name l.self (map (λ (s : ScopeState). s.templates) (map (λ s. s.value) (drop l.scope-index l.scopes))) ≡ template_among l.name l.self (map (λ (s : ScopeState). s.templates) (map (λ s. s.value) l.scopes))
