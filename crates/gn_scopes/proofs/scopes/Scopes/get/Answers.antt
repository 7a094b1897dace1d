use Rattle.std.proofs.Common.{Option, None, option_map, refl, ap, ◌∙◌}
use Rattle.gn_environment.specs.Layers.{VariableState}
use Rattle.gn_environment.specs.Chains.{shown_or, chain_value, chain_read}
use Rattle.gn_layers.specs.Named.{key}
use Rattle.gn_environment.proofs.Outwards.{chain_value-chain_read}
use Rattle.gn_scopes.proofs.scopes.Scopes.get.Goals as goal

pub returns : goal.returns
returns c =
    let name = c.new-name.ensures in
    let read = c.mark-found.ensures.new ∙ ap (λ k. chain_read k c.args.self.now) name in
    let there = (λ i. chain_value (name i) (read i)) ∙ chain_value-chain_read (key c.args.name) c.args.self.now in
    ((refl, (λ _. tt), read), record { read = tt; value = c.shown.ensures ∙ ap (λ (o : Option VariableState). shown_or o None) c.in_ok-variable_at.ensures ∙ there })

pub returns-in_err-variable_at : goal.returns-in_err-variable_at
returns-in_err-variable_at c =
    let name = c.new-name.ensures in
    let read = c.mark-found.ensures.new ∙ ap (λ k. chain_read k c.args.self.now) name in
    let there = (λ i. chain_value (name i) (read i)) ∙ chain_value-chain_read (key c.args.name) c.args.self.now in
    ((refl, (λ _. tt), read), record { read = tt; value = ap (option_map _) c.from_residual.ensures ∙ ap (λ (o : Option VariableState). shown_or o None) c.in_err-variable_at.ensures ∙ there })
