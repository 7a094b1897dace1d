use Rattle.std.proofs.Common.{sym, ap, ◌∙◌, subst}
use Rattle.gn_environment.specs.Giving.{all_given}
use Rattle.gn_layers.specs.Named.{named_chain, IsNumberedChain}
use Rattle.gn_environment.specs.Templates.{in_block}
use Rattle.gn_layers.specs.View.{value_pairs}
use Rattle.gn_scopes.proofs.NamedGiven.{seen_longer, numbered_longer, chain_given, chain_given_numbered}
use Rattle.gn_environment.proofs.Outcomes.{on_ok, on_err, always, on_err_too}
use Rattle.gn_scopes.proofs.named_scopes.NamedScopes.give_all.Goals as goal

pub invariant_of-self : goal.invariant_of-self
invariant_of-self c =
    numbered_longer c.self.inside.names c.numbered.new.names c.in_err-values.ensures.longer c.in_err-values.ensures.different c.self.inside.scopes c.self.invariant

pub returns-in_err-values-clause-err : goal.returns-in_err-values-clause-err
returns-in_err-values-clause-err c =
    on_err_too c.from_residual.result _ (seen_longer c.self.inside.names c.numbered.new.names c.in_err-values.ensures.longer c.in_err-values.ensures.different c.self.inside.scopes c.self.invariant ∙ c.self.view_is)

pub invariant_of-self-2 : goal.invariant_of-self-2
invariant_of-self-2 c =
    let names = c.self.inside.names in
    let new = c.numbered.new.names in
    let scopes = c.self.inside.scopes in
    let h = c.in_ok-values.ensures in
    always c.give_all.result (IsNumberedChain new c.give_all.new.self)
    (on_ok c.give_all.result _ _ (λ e. subst (IsNumberedChain new) (sym e) (chain_given_numbered names new h.longer h.different scopes c.self.invariant (value_pairs c.in_ok-values.values.items) h.numbers)) c.give_all.ensures.ok)
    (on_err c.give_all.result _ _ (λ e. subst (IsNumberedChain new) (sym e) (numbered_longer names new h.longer h.different scopes c.self.invariant)) c.give_all.ensures.err)

pub returns-clause-ok : goal.returns-clause-ok
returns-clause-ok c =
    let names = c.self.inside.names in
    let new = c.numbered.new.names in
    let scopes = c.self.inside.scopes in
    let h = c.in_ok-values.ensures in
    on_ok c.give_all.result _ _
    (λ e. ap (named_chain new) e ∙ chain_given names new h.longer h.different scopes c.self.invariant (value_pairs c.in_ok-values.values.items) h.numbers ∙ (λ i. in_block (all_given (h.values i)) (c.self.view_is i)))
    c.give_all.ensures.ok

pub returns-clause-err : goal.returns-clause-err
returns-clause-err c =
    let new = c.numbered.new.names in
    let h = c.in_ok-values.ensures in
    on_err c.give_all.result _ _
    (λ e. ap (named_chain new) e ∙ seen_longer c.self.inside.names new h.longer h.different c.self.inside.scopes c.self.invariant ∙ c.self.view_is)
    c.give_all.ensures.err
