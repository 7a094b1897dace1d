use Rattle.std.proofs.Common.{List, ℕ, option_map, sym, ap, ◌∙◌}
use Rattle.gn_environment.specs.Chains.{chain_variable}
use Rattle.gn_scopes.proofs.NamedLayers.{chain_variable_named, chain_variable_lacking}
use Rattle.gn_scopes.proofs.named_scopes.NamedScopes.variable.Goals as goal

pub returns-in_err-number : goal.returns-in_err-number
returns-in_err-number c =
    let a = c.self.inside in
    ap (option_map _) c.from_residual.ensures ∙ sym (chain_variable_lacking a.names c.args.name.now c.in_err-number.ensures.lacking a.scopes c.self.invariant) ∙ ap (chain_variable c.args.name.now) c.self.view_is

pub returns : goal.returns
returns c =
    let a = c.self.inside in
    c.variable.ensures ∙ ap (λ (k : List ℕ). chain_variable k a.scopes) c.new.ensures
    ∙ sym (chain_variable_named a.names c.self.invariant.different c.args.name.now c.in_ok-number.number c.in_ok-number.ensures.found a.scopes c.self.invariant) ∙ ap (chain_variable c.args.name.now) c.self.view_is
