use Rattle.std.proofs.Common.{List, ℕ, Some, option_map, sym, ap, ◌∙◌}
use Rattle.gn_environment.specs.Layers.{VariableState, ChainState}
use Rattle.gn_environment.specs.Chains.{variable_in}
use Rattle.gn_layers.specs.Named.{key}
use Rattle.gn_scopes.proofs.NamedLayers.{variable_named, variable_lacking}
use Rattle.gn_scopes.proofs.Interned.{lacking_as}
use Rattle.gn_scopes.proofs.named_scopes.NamedScopes.value_here.Goals as goal

pub returns-in_err-number : goal.returns-in_err-number
returns-in_err-number c =
    let a = c.self.inside in
    let lacking = lacking_as a.names _ _ c.as_bytes.ensures c.in_err-number.ensures.lacking in
    let nothing = variable_lacking a.names c.args.name.now lacking a.scopes.inner c.self.invariant.inner in
    ap (option_map _) c.from_residual.ensures ∙ ap (option_map (λ (v : VariableState). v.value)) (sym nothing ∙ ap (λ (s : ChainState). variable_in c.args.name.now s.inner) c.self.view_is)

pub returns : goal.returns
returns c =
    let a = c.self.inside in
    let found = c.in_ok-number.ensures.found ∙ ap Some c.as_bytes.ensures in
    let there = variable_named a.names c.self.invariant.different c.args.name.now c.in_ok-number.number found a.scopes.inner c.self.invariant.inner in
    c.value.ensures ∙ ap (option_map (λ (v : VariableState). v.value)) (ap (λ (k : List ℕ). variable_in k c.innermost.result.now) c.new.ensures ∙ ap (variable_in (key c.in_ok-number.number)) c.innermost.ensures ∙ sym there ∙ ap (λ (s : ChainState). variable_in c.args.name.now s.inner) c.self.view_is)
