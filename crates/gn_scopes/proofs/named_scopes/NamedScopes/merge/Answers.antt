use Rattle.std.proofs.Common.{sym, ap, ◌∙◌, subst}
use Rattle.gn_environment.specs.Giving.{all_given}
use Rattle.gn_environment.specs.Imports.{with_imported_calls}
use Rattle.gn_environment.specs.Layers.{LayerState}
use Rattle.gn_layers.specs.Named.{named_chain, IsNumberedChain}
use Rattle.gn_environment.specs.Templates.{in_block}
use Rattle.gn_layers.specs.View.{value_pairs}
use Rattle.gn_scopes.proofs.NamedGiven.{seen_longer, numbered_longer, chain_merged, chain_merged_numbered}
use Rattle.gn_environment.proofs.Outcomes.{on_ok, on_err, always, on_err_too}
use Rattle.gn_scopes.proofs.named_scopes.NamedScopes.merge.Goals as goal

pub invariant_of-self : goal.invariant_of-self
invariant_of-self c =
    numbered_longer c.self.inside.names c.numbered.new.names c.in_err-values.ensures.longer c.in_err-values.ensures.different c.self.inside.scopes c.self.invariant

pub returns-in_err-values-clause-err : goal.returns-in_err-values-clause-err
returns-in_err-values-clause-err c =
    on_err_too c.from_residual-in_err-values.result _ (seen_longer c.self.inside.names c.numbered.new.names c.in_err-values.ensures.longer c.in_err-values.ensures.different c.self.inside.scopes c.self.invariant ∙ c.self.view_is)

pub invariant_of-self-2 : goal.invariant_of-self-2
invariant_of-self-2 c =
    let names = c.self.inside.names in
    let new = c.numbered.new.names in
    let scopes = c.self.inside.scopes in
    let h = c.in_ok-values.ensures in
    always c.merge.result (IsNumberedChain new c.merge.new.self)
    (on_ok c.merge.result _ _ (λ e. subst (IsNumberedChain new) (sym e) (chain_merged_numbered names new h.longer h.different scopes c.self.invariant (value_pairs c.in_ok-values.values.items) h.numbers c.args.scope.now)) c.merge.ensures.ok)
    (on_err c.merge.result _ _ (λ e. subst (IsNumberedChain new) (sym e) (numbered_longer names new h.longer h.different scopes c.self.invariant)) c.merge.ensures.err)

pub returns-clause-ok : goal.returns-clause-ok
returns-clause-ok c =
    let names = c.self.inside.names in
    let new = c.numbered.new.names in
    let scopes = c.self.inside.scopes in
    let h = c.in_ok-values.ensures in
    on_ok c.merge.result _ _
    (λ e. ap (named_chain new) e ∙ chain_merged names new h.longer h.different scopes c.self.invariant (value_pairs c.in_ok-values.values.items) h.numbers c.args.scope.now ∙ (λ i. in_block (λ (layer : LayerState). with_imported_calls c.args.scope.now (all_given ((h.values ∙ c.in_ok-entries.ensures ∙ c.as_slice.ensures.value ∙ c.variables.ensures) i) layer)) (c.self.view_is i)))
    c.merge.ensures.ok

pub returns-clause-err : goal.returns-clause-err
returns-clause-err c =
    let new = c.numbered.new.names in
    let h = c.in_ok-values.ensures in
    on_err c.merge.result _ _
    (λ e. ap (named_chain new) e ∙ seen_longer c.self.inside.names new h.longer h.different c.self.inside.scopes c.self.invariant ∙ c.self.view_is)
    c.merge.ensures.err
