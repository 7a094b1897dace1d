use Rattle.std.proofs.Common.{if◌then◌else◌, None, ap, ◌∙◌}
use Rattle.gn_environment.specs.Layers.{LayerState, ChainState}
use Rattle.gn_environment.specs.Unread.{reported}
use Rattle.gn_layers.specs.Named.{texted_layer}
use Rattle.gn_scopes.proofs.NamedUnread.{named_unread}
use Rattle.gn_scopes.proofs.named_scopes.NamedScopes.unread.Goals as goal

pub returns : goal.returns
unfolding reported
returns c =
    let names = c.self.inside.names in
    let inner = c.self.inside.scopes.inner in
    c.unread_name.ensures ∙ ap (λ (l : LayerState). reported (texted_layer names l)) c.innermost.ensures
    ∙ ap (λ unread. if inner.checked then unread else None) (named_unread names c.self.invariant.different inner.variables c.self.invariant.inner)
    ∙ ap (λ (chain : ChainState). reported chain.inner) c.self.view_is
