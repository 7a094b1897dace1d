use Rattle.std.proofs.Common.{sym, ap, ◌∙◌, subst}
use Rattle.gn_environment.specs.Layers.{LayerState}
use Rattle.gn_environment.specs.Chains.{all_read_but}
use Rattle.gn_layers.specs.Named.{named_chain, IsNumberedChain}
use Rattle.gn_environment.specs.Templates.{in_block}
use Rattle.gn_scopes.proofs.NamedLayers.{named_all_read_but, all_read_but_numbered}
use Rattle.gn_scopes.proofs.named_scopes.NamedScopes.read_all_here_but.Goals as goal

pub invariant_of-self : goal.invariant_of-self
invariant_of-self c =
    let a = c.self.inside in
    let numbered = c.self.invariant in
    subst (IsNumberedChain a.names) (sym c.read_all_here_but.ensures) (record { different = numbered.different; inner = all_read_but_numbered a.names c.args.except.now a.scopes.inner numbered.inner; outer = numbered.outer })

pub returns : goal.returns
returns c =
    let a = c.self.inside in
    let except = c.args.except.now in
    ap (named_chain a.names) c.read_all_here_but.ensures
    ∙ ap (λ (l : LayerState). record (named_chain a.names a.scopes) { inner = l }) (sym (named_all_read_but a.names except a.scopes.inner))
    ∙ ap (in_block (all_read_but except)) c.self.view_is
