use Rattle.std.proofs.Common.{◌≡◌, ap, ◌∙◌, subst, IfOk}
use Rattle.gn_definitions.specs.Imported.{ScopeState}
use Rattle.gn_environment.specs.Imports.{scope_left}
use Rattle.gn_layers.specs.Kept.{public_scope}
use Rattle.gn_environment.specs.Layers.{ChainState}
use Rattle.gn_scopes.proofs.NamedLaid.{layer_texted}
use Rattle.gn_scopes.proofs.named_scopes.NamedScopes.leave_public.Goals as goal

pub returns-clause-ok : goal.returns-clause-ok
returns-clause-ok c =
    let a = c.self.inside in
    let laid = c.in_ok-laid.ensures ∙ layer_texted a.names c.self.invariant.different a.scopes.inner c.self.invariant.inner c.end-layer.result c.end-layer.ensures.layer in
    let all = ap public_scope laid ∙ ap (λ (s : ChainState). scope_left s.inner) c.self.view_is in
    subst (λ (s : ScopeState). IfOk c.into_public.result (λ scope. scope ≡ s)) all c.into_public.ensures
