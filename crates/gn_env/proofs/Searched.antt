-- Searches outwards: through the layers, then through what stands behind them.
use Rattle.std.proofs.Common.{◌≡◌, ℕ, List, [], ◌∷◌, ◌++◌, map, Option, Ok, Err, Bool, true, false, cond, is_some, refl, sym, ap, ◌∙◌}
use Rattle.gn_values.specs.Val.{Val}
use Rattle.gn_values.specs.Tables.{Table, at_name}
use Rattle.gn_definitions.specs.Imported.{ScopeState, DefinitionState}
use Rattle.gn_definitions.specs.declared.kept.DefinitionName.{DefinitionName}
use Rattle.gn_environment.specs.Layers.{LayerState}
use Rattle.gn_environment.specs.Chains.{nearest}
use Rattle.gn_environment.proofs.KeptScopes.{nearest_assoc, among_further}
use Rattle.gn_environment.specs.Environment.{Environment, behind, variable_here, given}
use Rattle.gn_environment.specs.Templates.{if_named, template_among, template_of, defaults_among, defaults_of, table_given}

module _ (name : List ℕ) (env : Environment) where
  among-append : (ts us : List (Table DefinitionName)) → template_among name env (ts ++ us) ≡ nearest (template_among name env ts) (template_among name env us)
  among-append [] us = refl
  among-append (t ∷ ts) us =
      ap (nearest (if_named env (at_name name t))) (among-append ts us) ∙ sym (nearest_assoc (if_named env (at_name name t)) (template_among name env ts) (template_among name env us))

  abbrev pub in_layers : List LayerState → Option DefinitionState
  in_layers ls = template_among name env (map (λ (l : LayerState). l.templates) ls)

  abbrev pub in_scopes : List ScopeState → Option DefinitionState
  in_scopes ss = template_among name env (map (λ (s : ScopeState). s.templates) ss)

  template_outwards : template_of name env ≡ nearest (if_named env (at_name name env.chain.inner.templates)) (nearest (in_layers env.chain.outer) (in_scopes (behind env)))
  unfolding template_of
  template_outwards =
      ap (nearest (if_named env (at_name name env.chain.inner.templates))) (among-append (map (λ (l : LayerState). l.templates) env.chain.outer) (map (λ (s : ScopeState). s.templates) (behind env)))

  -- what is found in the innermost layer, in those around it, and behind them
  pub templates_outwards : (a b c : Option DefinitionState) → a ≡ if_named env (at_name name env.chain.inner.templates) → b ≡ in_layers env.chain.outer → c ≡ in_scopes (behind env) → nearest a (nearest b c) ≡ template_of name env
  templates_outwards a b c p q r = (λ i. nearest (p i) (nearest (q i) (r i))) ∙ sym template_outwards

-- the same of defaults
module _ (kind : List ℕ) where
  defaults_found : (env : Environment) → defaults_of kind env ≡ nearest (at_name kind env.chain.inner.defaults) (nearest (defaults_among kind (map (λ (l : LayerState). l.defaults) env.chain.outer)) (defaults_among kind (map (λ (s : ScopeState). s.defaults) (behind env))))
  unfolding defaults_of
  defaults_found env =
      ap (nearest (at_name kind env.chain.inner.defaults)) (among_further kind (map (λ (l : LayerState). l.defaults) env.chain.outer) (map (λ (s : ScopeState). s.defaults) (behind env)))

  pub defaults_outwards : (env : Environment) (a b c : Option (Table Val)) → a ≡ at_name kind env.chain.inner.defaults → b ≡ defaults_among kind (map (λ (l : LayerState). l.defaults) env.chain.outer) → c ≡ defaults_among kind (map (λ (s : ScopeState). s.defaults) (behind env)) → nearest a (nearest b c) ≡ defaults_of kind env
  defaults_outwards env a b c p q r = (λ i. nearest (p i) (nearest (q i) (r i))) ∙ sym (defaults_found env)

-- one name after another is given its value

module _ (e : List ℕ × Val) (es : Table Val) (env : Environment) where
  given_more : (env' : Environment) (b : Bool) → cond b (Err e.0) (Ok (given e.0 e.1 env)) ≡ Ok env' → cond b (Err e.0) (table_given es (given e.0 e.1 env)) ≡ table_given es env'
  given_more env' true h = cc
  given_more env' false h = let is : given e.0 e.1 env ≡ env' = cc in ap (table_given es) is

  pub one_given : (env' : Environment) → table_given (e ∷ []) env ≡ Ok env' → table_given (e ∷ es) env ≡ table_given es env'
  one_given env' h = given_more env' (is_some (variable_here e.0 env)) h

  refused_more : (name : List ℕ) (b : Bool) → cond b (Err e.0) (Ok (given e.0 e.1 env)) ≡ Err name → cond b (Err e.0) (table_given es (given e.0 e.1 env)) ≡ Err name
  refused_more name true h = h
  refused_more name false h = cc

  pub one_refused : (name : List ℕ) → table_given (e ∷ []) env ≡ Err name → table_given (e ∷ es) env ≡ Err name
  one_refused name h = refused_more name (is_some (variable_here e.0 env)) h
