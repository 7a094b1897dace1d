use Rattle.std.proofs.Common.{List, ℕ, Some, sym, ap, ◌∙◌, subst}
use Rattle.gn_environment.specs.Layers.{LayerState}
use Rattle.gn_layers.specs.View.{variable_state}
use Rattle.gn_environment.specs.Chains.{set_in}
use Rattle.gn_layers.specs.Named.{named_chain, IsNumberedChain}
use Rattle.gn_environment.specs.Templates.{in_block}
use Rattle.gn_scopes.proofs.NamedLayers.{set_named, set_numbered}
use Rattle.gn_scopes.proofs.Interned.{inner_numbered, named_by_interned, numbered_by_interned}
use Rattle.gn_environment.proofs.Outcomes.{on_ok, on_err, always}
use Rattle.gn_scopes.proofs.named_scopes.NamedScopes.put.Goals as goal

pub invariant_of-self-2 : goal.invariant_of-self-2
invariant_of-self-2 c =
    let scopes = c.self.inside.scopes in
    let names = c.intern.new.self in
    let different = c.in_ok-number.ensures.different in
    let found = c.in_ok-number.ensures.found ∙ ap Some c.as_bytes.ensures in
    let numbered = numbered_by_interned c.self.inside.names names _ c.in_ok-number.ensures.names different scopes c.self.invariant in
    let v = Some (variable_state c.args.variable) in
    let set = inner_numbered names scopes _ numbered (set_numbered names different c.args.name.now c.in_ok-number.number found scopes.inner numbered.inner v) in
    always c.put.result _
    (on_ok c.put.result _ _ (λ e. subst (IsNumberedChain names) (sym (e ∙ ap (λ (k : List ℕ). in_block (set_in k v) scopes) c.new.ensures)) set) c.put.ensures.ok)
    (on_err c.put.result _ _ (λ e. subst (IsNumberedChain names) (sym e) numbered) c.put.ensures.err)

pub returns-clause-ok : goal.returns-clause-ok
returns-clause-ok c =
    let scopes = c.self.inside.scopes in
    let names = c.intern.new.self in
    let different = c.in_ok-number.ensures.different in
    let found = c.in_ok-number.ensures.found ∙ ap Some c.as_bytes.ensures in
    let numbered = numbered_by_interned c.self.inside.names names _ c.in_ok-number.ensures.names different scopes c.self.invariant in
    let same = named_by_interned c.self.inside.names names _ c.in_ok-number.ensures.names different scopes c.self.invariant in
    let v = Some (variable_state c.args.variable) in
    let whole = named_chain names scopes in
    on_ok c.put.result _ _ (λ e. ap (named_chain names) (e ∙ ap (λ (k : List ℕ). in_block (set_in k v) scopes) c.new.ensures) ∙ ap (λ (l : LayerState). record whole { inner = l }) (sym (set_named names different c.args.name.now c.in_ok-number.number found scopes.inner numbered.inner v)) ∙ ap (in_block (set_in c.args.name.now v)) (same ∙ c.self.view_is)) c.put.ensures.ok

pub returns-clause-err : goal.returns-clause-err
returns-clause-err c =
    let names = c.intern.new.self in
    let same = named_by_interned c.self.inside.names names _ c.in_ok-number.ensures.names c.in_ok-number.ensures.different c.self.inside.scopes c.self.invariant in
    on_err c.put.result _ _ (λ e. ap (named_chain names) e ∙ same ∙ c.self.view_is) c.put.ensures.err
