use Rattle.std.proofs.Common.{List, ℕ, Some, sym, ap, ◌∙◌}
use Rattle.gn_environment.specs.Layers.{ChainState}
use Rattle.gn_environment.specs.Chains.{variable_in}
use Rattle.gn_environment.specs.Declaring.{place_of}
use Rattle.gn_layers.specs.Named.{key}
use Rattle.gn_scopes.proofs.NamedLayers.{variable_named, variable_lacking}
use Rattle.gn_scopes.proofs.Interned.{lacking_as}
use Rattle.gn_scopes.proofs.named_scopes.NamedScopes.declared_here.Goals as goal

pub returns-in_err-number : goal.returns-in_err-number
returns-in_err-number c =
    let a = c.self.inside in
    let lacking = lacking_as a.names _ _ c.as_bytes.ensures c.in_err-number.ensures.lacking in
    let nothing = variable_lacking a.names c.args.name.now lacking a.scopes.inner c.self.invariant.inner in
    c.from_residual.ensures ∙ ap place_of (sym nothing ∙ ap (λ (s : ChainState). variable_in c.args.name.now s.inner) c.self.view_is)

pub returns : goal.returns
returns c =
    let a = c.self.inside in
    let found = c.in_ok-number.ensures.found ∙ ap Some c.as_bytes.ensures in
    let there = variable_named a.names c.self.invariant.different c.args.name.now c.in_ok-number.number found a.scopes.inner c.self.invariant.inner in
    c.declared.ensures ∙ ap place_of (ap (λ (k : List ℕ). variable_in k c.innermost.result.now) c.new.ensures ∙ ap (variable_in (key c.in_ok-number.number)) c.innermost.ensures ∙ sym there ∙ ap (λ (s : ChainState). variable_in c.args.name.now s.inner) c.self.view_is)
