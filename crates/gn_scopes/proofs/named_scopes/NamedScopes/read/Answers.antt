use Rattle.std.proofs.Common.{◌≡◌, List, ℕ, option_map, refl, sym, ap, ◌∙◌, subst}
use Rattle.gn_environment.specs.Chains.{chain_variable, chain_read}
use Rattle.gn_layers.specs.Named.{key, named_chain, IsNumberedChain}
use Rattle.gn_scopes.proofs.NamedLayers.{chain_read_named, chain_read_numbered, chain_read_lacking, chain_variable_named, chain_variable_lacking}
use Rattle.gn_scopes.proofs.named_scopes.NamedScopes.read.Goals as goal

pub invariant_of-self : goal.invariant_of-self
invariant_of-self c = c.self.invariant

pub invariant_of-self-2 : goal.invariant_of-self-2
invariant_of-self-2 c =
    let a = c.self.inside in
    let read = c.mark-found.ensures.new ∙ ap (λ (k : List ℕ). chain_read k a.scopes) c.new-key.ensures in
    subst (IsNumberedChain a.names) (sym read) (chain_read_numbered a.names c.self.invariant.different c.args.name.now c.in_ok-number.number c.in_ok-number.ensures.found a.scopes c.self.invariant)

pub returns : goal.returns
returns c =
    let a = c.self.inside in
    let name = c.args.name.now in
    let number = c.in_ok-number.number in
    let different = c.self.invariant.different in
    let found = c.in_ok-number.ensures.found in
    let marked = c.mark-found.new.self in
    let read = c.mark-found.ensures.new ∙ ap (λ (k : List ℕ). chain_read k a.scopes) c.new-key.ensures in
    let numbered = subst (IsNumberedChain a.names) (sym read) (chain_read_numbered a.names different name number found a.scopes c.self.invariant) in
    let view = ap (named_chain a.names) read ∙ sym (chain_read_named a.names different name number found a.scopes c.self.invariant) ∙ ap (chain_read name) c.self.view_is in (
      (refl, (λ _. tt), view),
      record {
        read = tt;
        value = c.variable_at.ensures ∙ ap (λ (k : List ℕ). chain_variable k marked) c.new-key.ensures ∙ sym (chain_variable_named a.names different name number found marked numbered) ∙ ap (chain_variable name) view;
      },
    )

pub returns-in_err-number : goal.returns-in_err-number
returns-in_err-number c =
    let a = c.self.inside in
    let name = c.args.name.now in
    let lacking = c.in_err-number.ensures.lacking in
    let view = c.self.view_is ∙ sym (ap (chain_read name) (sym c.self.view_is) ∙ chain_read_lacking a.names name lacking a.scopes c.self.invariant ∙ c.self.view_is) in (
      (refl, (λ _. tt), view),
      record {
        read = tt;
        value = ap (option_map _) c.from_residual.ensures ∙ sym (chain_variable_lacking a.names name lacking a.scopes c.self.invariant) ∙ ap (chain_variable name) view;
      },
    )
