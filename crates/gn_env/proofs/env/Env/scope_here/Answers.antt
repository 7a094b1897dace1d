use Rattle.std.proofs.Common.{◌≡◌, ◌∷◌, ap, ◌∙◌, subst, IfOk}
use Rattle.gn_definitions.specs.Imported.{ScopeState}
use Rattle.gn_environment.specs.Environment.{Environment, kept_by}
use Rattle.gn_environment.specs.Templates.{layers_of}
use Rattle.gn_layers.specs.Kept.{layers_over, kept_scope}
use Rattle.gn_env.proofs.InScope.{without_declared, all_in_scope}
use Rattle.gn_env.proofs.env.Env.scope_here.Goals as goal

pub returns : goal.returns
returns c =
    let scopes = c.self.inside.scopes in
    let layers = scopes.inner ∷ scopes.outer in
    let laid = c.in_ok-lay_over.ensures ∙ ap (layers_over layers) c.in_ok-laid.ensures in
    let all = c.take_hidden.ensures ∙ ap (without_declared layers) laid ∙ ap (λ (env : Environment). without_declared (layers_of env) (layers_over (layers_of env) (kept_scope (kept_by env.body)))) c.self.view_is ∙ all_in_scope c.args.self.now in
    subst (λ (s : ScopeState). IfOk c.into_kept.result (λ scope. scope ≡ s)) all c.into_kept.ensures
