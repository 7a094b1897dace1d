use Rattle.std.proofs.Common.{◌≡◌, ℕ, List, None, get_or, sym, subst, ap, ◌∙◌, arith}
use Rattle.gn_environment.specs.Layers.{LayerState, ChainState}
use Rattle.gn_scopes.specs.Whereabouts.{IsFound}
use Rattle.gn_scopes.specs.declared.scopes.Whereabouts.{Whereabouts}
use Rattle.gn_scopes.specs.declared.scopes.Whereabouts.TheVariants.{Outer}
use Rattle.gn_environment.specs.Chains.{variable_in, variable_of, nearest, chain_variable, IsFirstAt}
use Rattle.gn_environment.proofs.Outwards.{below_length, value_at_first}
use Rattle.gn_scopes.proofs.scopes.Scopes.variable_at.Goals as goal

found_there : (name : List ℕ) (chain whole : ChainState) (found : Whereabouts) (i : ℕ) → chain ≡ whole → found ≡ Outer i → IsFound name whole found → (variable_in name chain.inner ≡ None) × IsFirstAt name chain.outer i
found_there name chain whole found i view is h =
    subst (λ (c : ChainState). IsFound name c (Outer i)) (sym view) (subst (λ (f : Whereabouts). IsFound name whole f) is h)

found_outer : (name : List ℕ) (chain : ChainState) (i : ℕ) (x : LayerState) → (variable_in name chain.inner ≡ None) × IsFirstAt name chain.outer i → x ≡ get_or chain.outer i x → variable_in name x ≡ chain_variable name chain
unfolding chain_variable
found_outer name chain i x f is = sym (value_at_first name chain.outer i x f.1 is) ∙ ap (λ o. nearest o (variable_of name chain.outer)) (sym f.0)

pub index-requires : goal.index-requires
index-requires c =
    let a = c.self.inside in
    let at = found_there c.args.name.now (record { inner = a.inner; outer = a.outer.items }) _ _ c.in-Outer.i c.self.view_is c.in-Outer.is c.requires in
    omega (arith, a.outer.ok.0, below_length c.args.name.now a.outer.items c.in-Outer.i at.1)

pub returns-in-Outer : goal.returns-in-Outer
returns-in-Outer c =
    let a = c.self.inside in
    let at = found_there c.args.name.now (record { inner = a.inner; outer = a.outer.items }) _ _ c.in-Outer.i c.self.view_is c.in-Outer.is c.requires in
    c.get-in-Outer.ensures ∙ found_outer c.args.name.now (record { inner = a.inner; outer = a.outer.items }) c.in-Outer.i c.index.result.now at c.index.ensures ∙ ap (chain_variable c.args.name.now) c.self.view_is
