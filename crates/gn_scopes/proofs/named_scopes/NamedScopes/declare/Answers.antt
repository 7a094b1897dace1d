use Rattle.std.proofs.Common.{List, ℕ, Some, sym, ap, ◌∙◌, subst}
use Rattle.gn_environment.specs.Layers.{LayerState}
use Rattle.gn_environment.specs.Declaring.{declared_in}
use Rattle.gn_layers.specs.Named.{named_chain, IsNumberedChain}
use Rattle.gn_environment.specs.Templates.{in_block}
use Rattle.gn_scopes.proofs.NamedLayers.{declared_named, declared_numbered, declared_lacking}
use Rattle.gn_scopes.proofs.Interned.{inner_numbered, lacking_as}
use Rattle.gn_scopes.proofs.named_scopes.NamedScopes.declare.Goals as goal

pub invariant_of-self : goal.invariant_of-self
invariant_of-self c =
    let a = c.self.inside in
    let found = c.in-Some.ensures.found ∙ ap Some c.as_bytes.ensures in
    let read = c.declare.ensures ∙ ap (λ (k : List ℕ). in_block (declared_in k c.args.position) a.scopes) c.new.ensures in
    let left = inner_numbered a.names a.scopes _ c.self.invariant (declared_numbered a.names c.self.invariant.different c.args.name.now c.in-Some.number found a.scopes.inner c.self.invariant.inner c.args.position) in
    subst (IsNumberedChain a.names) (sym read) left

pub returns-in-Some : goal.returns-in-Some
returns-in-Some c =
    let a = c.self.inside in
    let found = c.in-Some.ensures.found ∙ ap Some c.as_bytes.ensures in
    let whole = named_chain a.names a.scopes in
    let read = c.declare.ensures ∙ ap (λ (k : List ℕ). in_block (declared_in k c.args.position) a.scopes) c.new.ensures in
    ap (named_chain a.names) read ∙ ap (λ (l : LayerState). record whole { inner = l }) (sym (declared_named a.names c.self.invariant.different c.args.name.now c.in-Some.number found a.scopes.inner c.self.invariant.inner c.args.position)) ∙ ap (in_block (declared_in c.args.name.now c.args.position)) c.self.view_is

pub returns-in_default : goal.returns-in_default
returns-in_default c =
    let a = c.self.inside in
    let lacking = lacking_as a.names _ _ c.as_bytes.ensures c.in_default.ensures.lacking in
    let whole = named_chain a.names a.scopes in
    sym c.self.view_is ∙ ap (λ (l : LayerState). record whole { inner = l }) (sym (declared_lacking a.names c.args.name.now lacking a.scopes.inner c.self.invariant.inner c.args.position)) ∙ ap (in_block (declared_in c.args.name.now c.args.position)) c.self.view_is
