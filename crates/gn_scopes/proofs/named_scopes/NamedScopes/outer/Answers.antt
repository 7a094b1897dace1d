use Rattle.std.proofs.Common.{map, sym, ap, ◌∙◌}
use Rattle.gn_environment.specs.Layers.{LayerState, ChainState}
use Rattle.gn_scopes.proofs.NamedLayers.{templates_of_named, defaults_of_named}
use Rattle.gn_scopes.proofs.named_scopes.NamedScopes.outer.Goals as goal

pub returns-clause-templates : goal.returns-clause-templates
returns-clause-templates c =
    ap (map (λ (l : LayerState). l.templates)) c.outer.ensures ∙ sym (templates_of_named c.self.inside.names c.self.inside.scopes.outer) ∙ ap (λ (h : ChainState). map (λ (l : LayerState). l.templates) h.outer) c.self.view_is

pub returns-clause-defaults : goal.returns-clause-defaults
returns-clause-defaults c =
    ap (map (λ (l : LayerState). l.defaults)) c.outer.ensures ∙ sym (defaults_of_named c.self.inside.names c.self.inside.scopes.outer) ∙ ap (λ (h : ChainState). map (λ (l : LayerState). l.defaults) h.outer) c.self.view_is
