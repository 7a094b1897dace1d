use Rattle.std.proofs.Common.{◌≡◌, ap, ◌∙◌, subst, IfOk}
use Rattle.gn_values.specs.Val.{Val}
use Rattle.gn_values.specs.Tables.{Table}
use Rattle.gn_definitions.specs.Imported.{ScopeState}
use Rattle.gn_environment.specs.Layers.{ChainState, values_in}
use Rattle.gn_scopes.proofs.NamedLaid.{layer_texted}
use Rattle.gn_scopes.proofs.named_scopes.NamedScopes.leave_with_bindings.Goals as goal

pub returns-clause-ok : goal.returns-clause-ok
returns-clause-ok c =
    let a = c.self.inside in
    let laid = c.in_ok-laid.ensures ∙ layer_texted a.names c.self.invariant.different a.scopes.inner c.self.invariant.inner c.end-layer.result c.end-layer.ensures.layer in
    let all = ap (λ (s : ScopeState). s.variables) laid ∙ ap (λ (s : ChainState). values_in s.inner) c.self.view_is in
    subst (λ (vs : Table Val). IfOk c.into_bindings.result (λ bindings. bindings ≡ vs)) all c.into_bindings.ensures
