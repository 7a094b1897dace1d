use Rattle.std.proofs.Common.{◌∷◌, ap, ◌∙◌}
use Rattle.gn_layers.specs.Kept.{scope_over, scope_texted, layers_over, layers_texted_over}
use Rattle.gn_environment.specs.Layers.{ChainState}
use Rattle.gn_scopes.proofs.NamedLaid.{in_order, layers_texted}
use Rattle.gn_environment.proofs.Outcomes.{on_ok}
use Rattle.gn_scopes.proofs.named_scopes.NamedScopes.lay_over.Goals as goal

pub returns : goal.returns
returns c =
    let a = c.self.inside in
    let base = c.args.lower.now in
    let behind = c.in_ok-lay_layers.ensures ∙ ap (λ ls. layers_texted_over a.names ls base) c.outer.ensures in
    on_ok c.lay.result _ _ (λ laid.
    laid ∙ (λ i. scope_over (scope_texted a.names (c.innermost.ensures i)) (behind i))
    ∙ layers_texted a.names c.self.invariant.different base (in_order base.variables c.len-len.ensures.ordered) (a.scopes.inner ∷ a.scopes.outer) (c.self.invariant.inner, c.self.invariant.outer)
    ∙ ap (λ (s : ChainState). layers_over (s.inner ∷ s.outer) base) c.self.view_is) c.lay.ensures
