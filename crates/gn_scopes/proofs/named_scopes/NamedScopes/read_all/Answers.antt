use Rattle.std.proofs.Common.{sym, ap, ◌∙◌, subst}
use Rattle.gn_environment.specs.Chains.{chain_all_read}
use Rattle.gn_layers.specs.Named.{named_chain, IsNumberedChain}
use Rattle.gn_scopes.proofs.NamedLayers.{named_chain_all_read, chain_all_read_numbered}
use Rattle.gn_scopes.proofs.named_scopes.NamedScopes.read_all.Goals as goal

pub invariant_of-self : goal.invariant_of-self
invariant_of-self c =
    let a = c.self.inside in
    subst (IsNumberedChain a.names) (sym c.read_all.ensures) (chain_all_read_numbered a.names a.scopes c.self.invariant)

pub returns : goal.returns
returns c =
    let a = c.self.inside in
    ap (named_chain a.names) c.read_all.ensures ∙ sym (named_chain_all_read a.names a.scopes) ∙ ap chain_all_read c.self.view_is
