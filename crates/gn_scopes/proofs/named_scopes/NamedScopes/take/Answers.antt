use Rattle.std.proofs.Common.{List, ℕ, None, Some, option_map, sym, ap, ◌∙◌, subst}
use Rattle.gn_environment.specs.Layers.{LayerState, ChainState}
use Rattle.gn_layers.specs.View.{variable_state}
use Rattle.gn_environment.specs.Chains.{variable_in, set_in}
use Rattle.gn_layers.specs.Named.{named_chain, IsNumberedChain}
use Rattle.gn_environment.specs.Templates.{in_block}
use Rattle.gn_scopes.proofs.NamedLayers.{variable_named, variable_lacking, set_named, set_numbered, unset_lacking}
use Rattle.gn_scopes.proofs.Interned.{inner_numbered, lacking_as}
use Rattle.gn_scopes.proofs.named_scopes.NamedScopes.take.Goals as goal

pub returns-in_err-number-clause-value : goal.returns-in_err-number-clause-value
returns-in_err-number-clause-value c =
    let a = c.self.inside in
    let lacking = lacking_as a.names _ _ c.as_bytes.ensures c.in_err-number.ensures.lacking in
    ap (option_map variable_state) c.from_residual.ensures ∙ sym (variable_lacking a.names c.args.name.now lacking a.scopes.inner c.self.invariant.inner) ∙ ap (λ (s : ChainState). variable_in c.args.name.now s.inner) c.self.view_is

pub returns-in_err-number-clause-new : goal.returns-in_err-number-clause-new
returns-in_err-number-clause-new c =
    let a = c.self.inside in
    let lacking = lacking_as a.names _ _ c.as_bytes.ensures c.in_err-number.ensures.lacking in
    let whole = named_chain a.names a.scopes in
    sym c.self.view_is ∙ ap (λ (l : LayerState). record whole { inner = l }) (sym (unset_lacking a.names c.args.name.now lacking a.scopes.inner c.self.invariant.inner)) ∙ ap (in_block (set_in c.args.name.now None)) c.self.view_is

pub invariant_of-self : goal.invariant_of-self
invariant_of-self c =
    let a = c.self.inside in
    let found = c.in_ok-number.ensures.found ∙ ap Some c.as_bytes.ensures in
    let gone = c.take.ensures.new ∙ ap (λ (k : List ℕ). in_block (set_in k None) a.scopes) c.new.ensures in
    let left = inner_numbered a.names a.scopes _ c.self.invariant (set_numbered a.names c.self.invariant.different c.args.name.now c.in_ok-number.number found a.scopes.inner c.self.invariant.inner None) in
    subst (IsNumberedChain a.names) (sym gone) left

pub returns-clause-value : goal.returns-clause-value
returns-clause-value c =
    let a = c.self.inside in
    let found = c.in_ok-number.ensures.found ∙ ap Some c.as_bytes.ensures in
    let there = variable_named a.names c.self.invariant.different c.args.name.now c.in_ok-number.number found a.scopes.inner c.self.invariant.inner in
    c.take.ensures.value ∙ ap (λ (k : List ℕ). variable_in k a.scopes.inner) c.new.ensures ∙ sym there ∙ ap (λ (s : ChainState). variable_in c.args.name.now s.inner) c.self.view_is

pub returns-clause-new : goal.returns-clause-new
returns-clause-new c =
    let a = c.self.inside in
    let found = c.in_ok-number.ensures.found ∙ ap Some c.as_bytes.ensures in
    let whole = named_chain a.names a.scopes in
    let gone = c.take.ensures.new ∙ ap (λ (k : List ℕ). in_block (set_in k None) a.scopes) c.new.ensures in
    ap (named_chain a.names) gone ∙ ap (λ (l : LayerState). record whole { inner = l }) (sym (set_named a.names c.self.invariant.different c.args.name.now c.in_ok-number.number found a.scopes.inner c.self.invariant.inner None)) ∙ ap (in_block (set_in c.args.name.now None)) c.self.view_is
