use Rattle.std.proofs.Common.{sym, ap, ◌∙◌, subst}
use Rattle.gn_environment.specs.Layers.{LayerState}
use Rattle.gn_environment.specs.Chains.{all_read}
use Rattle.gn_layers.specs.Named.{named_chain, IsNumberedChain}
use Rattle.gn_environment.specs.Templates.{in_block}
use Rattle.gn_scopes.proofs.NamedLayers.{named_all_read, all_read_numbered}
use Rattle.gn_scopes.proofs.Interned.{inner_numbered}
use Rattle.gn_scopes.proofs.named_scopes.NamedScopes.read_all_here.Goals as goal

pub invariant_of-self : goal.invariant_of-self
invariant_of-self c =
    let a = c.self.inside in
    let left = inner_numbered a.names a.scopes _ c.self.invariant (all_read_numbered a.names a.scopes.inner c.self.invariant.inner) in
    subst (IsNumberedChain a.names) (sym c.read_all_here.ensures) left

pub returns : goal.returns
returns c =
    let a = c.self.inside in
    let whole = named_chain a.names a.scopes in
    ap (named_chain a.names) c.read_all_here.ensures ∙ ap (λ (l : LayerState). record whole { inner = l }) (sym (named_all_read a.names a.scopes.inner)) ∙ ap (in_block all_read) c.self.view_is
