use Rattle.std.proofs.Common.{List, ℕ, sym, ap, ◌∙◌, subst}
use Rattle.gn_environment.specs.Chains.{chain_read}
use Rattle.gn_layers.specs.Named.{named_chain, IsNumberedChain}
use Rattle.gn_scopes.proofs.NamedLayers.{chain_read_named, chain_read_numbered, chain_read_lacking}
use Rattle.gn_scopes.proofs.named_scopes.NamedScopes.mark.Goals as goal

pub invariant_of-self : goal.invariant_of-self
invariant_of-self c =
    let a = c.self.inside in
    let read = c.mark-found.ensures.new ∙ ap (λ (k : List ℕ). chain_read k a.scopes) c.new.ensures in
    subst (IsNumberedChain a.names) (sym read) (chain_read_numbered a.names c.self.invariant.different c.args.name.now c.in-Some.number c.in-Some.ensures.found a.scopes c.self.invariant)

pub returns-in-Some : goal.returns-in-Some
returns-in-Some c =
    let a = c.self.inside in
    let read = c.mark-found.ensures.new ∙ ap (λ (k : List ℕ). chain_read k a.scopes) c.new.ensures in
    ap (named_chain a.names) read ∙ sym (chain_read_named a.names c.self.invariant.different c.args.name.now c.in-Some.number c.in-Some.ensures.found a.scopes c.self.invariant) ∙ ap (chain_read c.args.name.now) c.self.view_is

pub returns-in_default : goal.returns-in_default
returns-in_default c =
    let a = c.self.inside in
    sym (ap (chain_read c.args.name.now) (sym c.self.view_is) ∙ chain_read_lacking a.names c.args.name.now c.in_default.ensures.lacking a.scopes c.self.invariant ∙ c.self.view_is)
