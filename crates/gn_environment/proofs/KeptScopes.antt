-- What a definition keeps at a name is what a read finds there.
use Rattle.std.proofs.Common.{◌≡◌, ℕ, true, false, not, cond, List, [], ◌∷◌, ◌++◌, map, Option, Some, None, option_map, Ordering, refl, sym, ap, ◌∙◌, subst}
use Rattle.std.specs.Ordering.{is_eq, match_ordering}
use Rattle.std.specs.declared.cmp.Ordering.TheVariants.{Less, Equal, Greater}
use Rattle.std.specs.List.{AllByRecursion}
use Rattle.std.specs.List.Sorted.{IsStrictlySortedBy}
use Rattle.std.specs.Map.{keys_of}
use Rattle.std.proofs.lemmas.Map.Made.{lookup-map_values, keys_of-map_values}
use Rattle.std.specs.BTreeMap.{is_at}
use Rattle.std.specs.Cmp.Lexicographic.{texts_ties}
use Rattle.std.proofs.lemmas.Map.Entries.{lookup-filter-keys}
use Rattle.std.proofs.lemmas.Slice.Eq.{bytes_eq-Decides}
use Rattle.gn_values.specs.Val.{Val}
use Rattle.gn_values.specs.Tables.{Table, at_name, with_name, with_names}
use Rattle.gn_definitions.specs.Imported.{ScopeState, DefinitionState}
use Rattle.gn_environment.specs.Layers.{VariableState, LayerState, values_in}
use Rattle.gn_environment.specs.Chains.{nearest, variable_in, variable_of, is_declared, chain_variable}
use Rattle.gn_environment.specs.Environment.{Environment, fixed_value, kept_by, behind, value_of}
use Rattle.gn_environment.specs.Templates.{layers_of, laid_over, undeclared, kept_variables, kept_defaults, scope_here, defaults_among, defaults_of}
use Rattle.gn_environment.specs.Shown.{IsInOrder}
use Rattle.gn_environment.specs.Within.{AreInOrder}
use Rattle.gn_environment.proofs.Names.{order, tied, by_answer}
use Rattle.gn_environment.proofs.Outwards.{at_name-with_name}
use Rattle.gn_environment.proofs.DeclaredNames.{open_or}

module _ {A : Type 0} where
  pub nearest_none : (o : Option A) → nearest o None ≡ o
  nearest_none None = refl
  nearest_none (Some a) = refl

  pub nearest_assoc : (o p q : Option A) → nearest (nearest o p) q ≡ nearest o (nearest p q)
  nearest_assoc None p q = refl
  nearest_assoc (Some a) p q = refl

-- a name that is set is found, any other is found as before
module _ {A : Type 0} (name : List ℕ) where
  looks : (e : List ℕ × A) (es : Table A) (r : Ordering) → order name e.0 ≡ r → at_name name (e ∷ es) ≡ cond (is_eq r) (Some e.1) (at_name name es)
  looks e es r h = ap (λ o. cond (is_eq o) (Some e.1) (at_name name es)) h

  abbrev set_by : List ℕ → A → List ℕ × A → Table A → Ordering → Table A
  set_by key a e es r = match_ordering r ((key, a) ∷ e ∷ es) ((e.0, a) ∷ es) (e ∷ with_name key a es)

  -- the name isn't the one that is set
  module _ (key : List ℕ) (a : A) (other : is_eq (order name key) ≡ false) where
    passed : (es : Table A) → at_name name ((key, a) ∷ es) ≡ at_name name es
    passed es = ap (λ b. cond b (Some a) (at_name name es)) other

    found_as_before : (es : Table A) → at_name name (with_name key a es) ≡ at_name name es
    found_as_before [] = passed []
    found_as_before (e ∷ es) = by_answer (order key e.0)
        (λ h. ap (λ r. at_name name (set_by key a e es r)) h ∙ passed (e ∷ es))
        (λ h. ap (λ r. at_name name (set_by key a e es r)) h ∙ same_key h)
        (λ h. ap (λ r. at_name name (set_by key a e es r)) h ∙ ap (cond (is_eq (order name e.0)) (Some e.1)) (found_as_before es))
      where
        same_key : order key e.0 ≡ Equal → at_name name ((e.0, a) ∷ es) ≡ at_name name (e ∷ es)
        same_key h =
            let apart : is_eq (order name e.0) ≡ false = ap (λ k. is_eq (order name k)) (sym (tied key e.0 h)) ∙ other in
            ap (λ b. cond b (Some a) (at_name name es)) apart ∙ sym (ap (λ b. cond b (Some e.1) (at_name name es)) apart)

  -- a name that stands before all names isn't found
  nothing_behind : (es : Table A) → AllByRecursion (λ y. order name y ≡ Less) (keys_of es) → at_name name es ≡ None
  nothing_behind [] all = refl
  nothing_behind (e ∷ es) all = looks e es Less all.0 ∙ nothing_behind es all.1

  one_laid : (e : List ℕ × A) (es base : Table A) → AllByRecursion (λ y. order e.0 y ≡ Less) (keys_of es) → at_name name (with_names es (with_name e.0 e.1 base)) ≡ nearest (at_name name es) (at_name name (with_name e.0 e.1 base)) → at_name name (with_names es (with_name e.0 e.1 base)) ≡ nearest (at_name name (e ∷ es)) (at_name name base)
  one_laid e es base all rest = by_answer (order name e.0)
      (λ h. apart Less h refl)
      (λ h.
      let same : e.0 ≡ name = sym (tied name e.0 h) in
      let gone : at_name name es ≡ None = nothing_behind es (subst (λ n. AllByRecursion (λ y. order n y ≡ Less) (keys_of es)) same all) in
      rest ∙ ap (λ o. nearest o (at_name name (with_name e.0 e.1 base))) gone
      ∙ ap (λ n. at_name name (with_name n e.1 base)) same ∙ at_name-with_name name e.1 base
      ∙ ap (λ o. nearest o (at_name name base)) (sym (looks e es Equal h)))
      (λ h. apart Greater h refl)
    where
      apart : (r : Ordering) → order name e.0 ≡ r → is_eq r ≡ false → at_name name (with_names es (with_name e.0 e.1 base)) ≡ nearest (at_name name (e ∷ es)) (at_name name base)
      apart r h n =
          rest ∙ ap (nearest (at_name name es)) (found_as_before e.0 e.1 (ap is_eq h ∙ n) base)
          ∙ ap (λ b. nearest (cond b (Some e.1) (at_name name es)) (at_name name base)) (sym (ap is_eq h ∙ n))

  pub laid_at : (es base : Table A) → IsInOrder es → at_name name (with_names es base) ≡ nearest (at_name name es) (at_name name base)
  unfolding IsStrictlySortedBy
  laid_at [] base s = refl
  laid_at (e ∷ es) base s = one_laid e es base s.0 (laid_at es (with_name e.0 e.1 base) s.1)

module _ (name : List ℕ) where
  abbrev value_at_variable : Option VariableState → Option Val
  value_at_variable o = option_map (λ v. v.value) o

  value_in : (l : LayerState) → at_name name (values_in l) ≡ value_at_variable (variable_in name l)
  value_in l = lookup-map_values (λ (v : VariableState). v.value) (is_at (order name)) l.variables

  values_in_order : (l : LayerState) → IsInOrder l.variables → IsInOrder (values_in l)
  values_in_order l s =
      subst (λ ks. IsStrictlySortedBy order ks) (sym (keys_of-map_values (λ (v : VariableState). v.value) l.variables)) s

  value_further : (o p : Option VariableState) (q : Option Val) → nearest (value_at_variable o) (nearest (value_at_variable p) q) ≡ nearest (value_at_variable (nearest o p)) q
  value_further None p q = refl
  value_further (Some v) p q = refl

  values_laid : (ls : List LayerState) (base : Table Val) → AreInOrder ls → at_name name (laid_over (map values_in ls) base) ≡ nearest (value_at_variable (variable_of name ls)) (at_name name base)
  values_laid [] base s = refl
  values_laid (l ∷ ls) base s =
      laid_at name (values_in l) (laid_over (map values_in ls) base) (values_in_order l s.0.0)
      ∙ ap (λ o. nearest o (at_name name (laid_over (map values_in ls) base))) (value_in l)
      ∙ ap (nearest (value_at_variable (variable_in name l))) (values_laid ls base s.1)
      ∙ value_further (variable_in name l) (variable_of name ls) (at_name name base)

  kept_value : (body : Option DefinitionState) → at_name name (kept_variables (kept_by body)) ≡ fixed_value name (kept_by body)
  kept_value None = refl
  kept_value (Some d) = sym (nearest_none (at_name name d.scope.variables))

  fixed_further : (fs gs : List ScopeState) → fixed_value name (fs ++ gs) ≡ nearest (fixed_value name fs) (fixed_value name gs)
  fixed_further [] gs = refl
  fixed_further (f ∷ fs) gs =
      ap (nearest (at_name name f.variables)) (fixed_further fs gs) ∙ sym (nearest_assoc (at_name name f.variables) (fixed_value name fs) (fixed_value name gs))

  -- a table but for what is declared
  same_test : (layers : List LayerState) (key : List ℕ) → is_at (order name) key ≡ true → not (is_declared key layers) ≡ not (is_declared name layers)
  same_test layers key h = ap (λ k. not (is_declared k layers)) (sym ((bytes_eq-Decides name key).0 (texts_ties name key ∙ h)))

  at_undeclared : {A : Type 0} (layers : List LayerState) (table : Table A) → at_name name (undeclared layers table) ≡ cond (not (is_declared name layers)) (at_name name table) None
  at_undeclared layers table =
      lookup-filter-keys (is_at (order name)) (λ key. not (is_declared key layers)) (not (is_declared name layers)) (same_test layers) table

  laid_there : (env : Environment) → AreInOrder (layers_of env) → at_name name (laid_over (map values_in (layers_of env)) (kept_variables (kept_by env.body))) ≡ nearest (value_at_variable (variable_of name (layers_of env))) (fixed_value name (kept_by env.body))
  laid_there env s =
      values_laid (layers_of env) (kept_variables (kept_by env.body)) s
      ∙ ap (nearest (value_at_variable (variable_of name (layers_of env)))) (kept_value env.body)

  variable_kept : (env : Environment) → AreInOrder (layers_of env) → is_declared name (layers_of env) ≡ false → at_name name (scope_here env).variables ≡ nearest (value_at_variable (variable_of name (layers_of env))) (fixed_value name (kept_by env.body))
  unfolding scope_here
  variable_kept env s found =
      at_undeclared (layers_of env) (laid_over (map values_in (layers_of env)) (kept_variables (kept_by env.body)))
      ∙ ap (λ b. cond (not b) (at_name name (laid_over (map values_in (layers_of env)) (kept_variables (kept_by env.body)))) None) found
      ∙ laid_there env s

  pub read_is_kept : (env : Environment) → AreInOrder (layers_of env) → is_declared name (layers_of env) ≡ false → value_of name env ≡ nearest (at_name name (scope_here env).variables) (fixed_value name env.beneath)
  unfolding value_of chain_variable
  read_is_kept env s found =
      let here : Option Val = value_at_variable (variable_of name (layers_of env)) in
      open_or (variable_of name (layers_of env)) (fixed_value name (behind env)) found
      ∙ ap (nearest here) (fixed_further (kept_by env.body) env.beneath)
      ∙ sym (nearest_assoc here (fixed_value name (kept_by env.body)) (fixed_value name env.beneath))
      ∙ ap (λ o. nearest o (fixed_value name env.beneath)) (sym (variable_kept env s found))

  -- and what they declare isn't kept
  pub declared_is_not_kept : (env : Environment) → is_declared name (layers_of env) ≡ true → at_name name (scope_here env).variables ≡ None
  unfolding scope_here
  declared_is_not_kept env h =
      at_undeclared (layers_of env) (laid_over (map values_in (layers_of env)) (kept_variables (kept_by env.body)))
      ∙ ap (λ b. cond (not b) (at_name name (laid_over (map values_in (layers_of env)) (kept_variables (kept_by env.body)))) None) h

-- The same of defaults
module _ (kind : List ℕ) where
  abbrev defaults_in : LayerState → Table (Table Val)
  defaults_in l = l.defaults

  abbrev defaults_kept : ScopeState → Table (Table Val)
  defaults_kept s = s.defaults

  defaults_laid : (ls : List LayerState) (base : Table (Table Val)) → AreInOrder ls → at_name kind (laid_over (map defaults_in ls) base) ≡ nearest (defaults_among kind (map defaults_in ls)) (at_name kind base)
  defaults_laid [] base s = refl
  defaults_laid (l ∷ ls) base s =
      laid_at kind l.defaults (laid_over (map defaults_in ls) base) s.0.1
      ∙ ap (nearest (at_name kind l.defaults)) (defaults_laid ls base s.1)
      ∙ sym (nearest_assoc (at_name kind l.defaults) (defaults_among kind (map defaults_in ls)) (at_name kind base))

  kept_default : (body : Option DefinitionState) → at_name kind (kept_defaults (kept_by body)) ≡ defaults_among kind (map defaults_kept (kept_by body))
  kept_default None = refl
  kept_default (Some d) = sym (nearest_none (at_name kind d.scope.defaults))

  pub among_further : (ts us : List (Table (Table Val))) → defaults_among kind (ts ++ us) ≡ nearest (defaults_among kind ts) (defaults_among kind us)
  among_further [] us = refl
  among_further (t ∷ ts) us =
      ap (nearest (at_name kind t)) (among_further ts us) ∙ sym (nearest_assoc (at_name kind t) (defaults_among kind ts) (defaults_among kind us))

  behind_further : (fs gs : List ScopeState) → defaults_among kind (map defaults_kept (fs ++ gs)) ≡ nearest (defaults_among kind (map defaults_kept fs)) (defaults_among kind (map defaults_kept gs))
  behind_further [] gs = refl
  behind_further (f ∷ fs) gs =
      ap (nearest (at_name kind f.defaults)) (behind_further fs gs)
      ∙ sym (nearest_assoc (at_name kind f.defaults) (defaults_among kind (map defaults_kept fs)) (defaults_among kind (map defaults_kept gs)))

  pub defaults_are_kept : (env : Environment) → AreInOrder (layers_of env) → defaults_of kind env ≡ nearest (at_name kind (scope_here env).defaults) (defaults_among kind (map (λ (s : ScopeState). s.defaults) env.beneath))
  unfolding defaults_of scope_here
  defaults_are_kept env s =
      among_further (map defaults_in (layers_of env)) (map defaults_kept (behind env))
      ∙ ap (nearest (defaults_among kind (map defaults_in (layers_of env)))) (behind_further (kept_by env.body) env.beneath)
      ∙ sym (nearest_assoc (defaults_among kind (map defaults_in (layers_of env))) (defaults_among kind (map defaults_kept (kept_by env.body))) (defaults_among kind (map defaults_kept env.beneath)))
      ∙ ap (λ o. nearest o (defaults_among kind (map defaults_kept env.beneath)))
      (ap (nearest (defaults_among kind (map defaults_in (layers_of env)))) (sym (kept_default env.body))
      ∙ sym (defaults_laid (layers_of env) (kept_defaults (kept_by env.body)) s))
