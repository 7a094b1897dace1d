-- Names that are declared: where they are, and that no read finds them.
use Rattle.std.proofs.Common.{◌≡◌, ℕ, Bool, true, false, if◌then◌else◌, List, Option, Some, None, option_map, is_some, refl, sym, ap, ◌∙◌}
use Rattle.gn_tree.specs.declared.position.Position.{Position}
use Rattle.gn_values.specs.Val.{Val}
use Rattle.gn_environment.specs.Layers.{VariableState, LayerState}
use Rattle.gn_environment.specs.Chains.{variable_in, nearest, variable_of, unless_declared, shown_or, is_declared_variable, is_declared, chain_variable}
use Rattle.gn_environment.specs.Assigning.{declared_after, assigned_variable, put}
use Rattle.gn_environment.specs.Environment.{Environment, fixed_value, behind, value_of, variable_here}
use Rattle.gn_environment.specs.Templates.{layers_of}
use Rattle.gn_environment.specs.Declaring.{declared_of, declared_in, place_of, declared_here}
use Rattle.gn_environment.proofs.Outwards.{at_name-with_name}

-- a name that isn't declared is shown as it stands
open_variable : (d : Option Position) (value : Val) → is_some d ≡ false → unless_declared d value ≡ Some value
open_variable None value h = refl
open_variable (Some p) value h = cc

hidden_variable : (d : Option Position) (value : Val) → is_some d ≡ true → unless_declared d value ≡ None
hidden_variable None value h = cc
hidden_variable (Some p) value h = refl

pub open_or : (o : Option VariableState) (beneath : Option Val) → is_declared_variable o ≡ false → shown_or o beneath ≡ nearest (option_map (λ (v : VariableState). v.value) o) beneath
open_or (Some v) beneath h = open_variable v.declared v.value h
open_or None beneath h = refl

hidden_or : (o : Option VariableState) (beneath : Option Val) → is_declared_variable o ≡ true → shown_or o beneath ≡ None
hidden_or (Some v) beneath h = hidden_variable v.declared v.value h
hidden_or None beneath h = cc

pub undeclared_is_read : (name : List ℕ) (env : Environment) → is_declared name (layers_of env) ≡ false → value_of name env ≡ nearest (option_map (λ (v : VariableState). v.value) (variable_of name (layers_of env))) (fixed_value name (behind env))
unfolding value_of chain_variable
undeclared_is_read name env h = open_or (variable_of name (layers_of env)) (fixed_value name (behind env)) h

pub declared_is_not_read : (name : List ℕ) (env : Environment) → is_declared name (layers_of env) ≡ true → value_of name env ≡ None
unfolding value_of chain_variable
declared_is_not_read name env h = hidden_or (variable_of name (layers_of env)) (fixed_value name (behind env)) h

-- what the innermost scope declares
declared_first_there : (o p : Option VariableState) (position : Position) → place_of o ≡ Some position → is_declared_variable (nearest o p) ≡ true
declared_first_there (Some v) p position h = ap is_some h
declared_first_there None p position h = cc

pub declared_here_is_not_read : (name : List ℕ) (position : Position) (env : Environment) → declared_here name env ≡ Some position → value_of name env ≡ None
unfolding declared_here variable_here
declared_here_is_not_read name position env h =
    declared_is_not_read name env (declared_first_there (variable_in name env.chain.inner) (variable_of name env.chain.outer) position h)

-- where an assignment leaves a name declared
module _ (name : List ℕ) (value : Val) (position : Position) (layer : LayerState) where
  place_after : place_of (variable_in name (put name value position layer)) ≡ declared_after layer.declares (variable_in name layer) position
  place_after = ap place_of (at_name-with_name name (assigned_variable layer.declares (variable_in name layer) value position) layer.variables)

  first_by : (b : Bool) → layer.declares ≡ b → variable_in name layer ≡ None → place_of (variable_in name (put name value position layer)) ≡ (if b then Some position else None)
  first_by b d h = place_after ∙ (λ i. declared_after (d i) (h i) position)

  pub first_declares : layer.declares ≡ true → variable_in name layer ≡ None → place_of (variable_in name (put name value position layer)) ≡ Some position
  first_declares d h = first_by true d h

  pub nothing_declared : layer.declares ≡ false → variable_in name layer ≡ None → place_of (variable_in name (put name value position layer)) ≡ None
  nothing_declared d h = first_by false d h

  pub further_leaves : (before : VariableState) → variable_in name layer ≡ Some before → place_of (variable_in name (put name value position layer)) ≡ before.declared
  further_leaves before h = place_after ∙ ap (λ o. declared_after layer.declares o position) h

pub declares_nothing : (name : List ℕ) (position : Position) (layer : LayerState) → layer.declares ≡ false → declared_in name position layer ≡ layer
declares_nothing name position layer h = ap (λ b. if b then declared_of name position layer (variable_in name layer) else layer) h
