-- Scopes that don't declare names have none that is declared.
use Rattle.std.proofs.Common.{◌≡◌, ℕ, Bool, true, false, cond, List, [], ◌∷◌, Option, Some, None, refl, sym, ap, ◌∙◌, subst}
use Rattle.std.specs.Ordering.{is_eq, match_ordering}
use Rattle.std.specs.List.{AllByRecursion}
use Rattle.std.proofs.lemmas.Option.{same_Some}
use Rattle.gn_tree.specs.declared.position.Position.{Position}
use Rattle.gn_values.specs.Val.{Val}
use Rattle.gn_values.specs.Tables.{Table, at_name, with_name}
use Rattle.gn_environment.specs.Layers.{VariableState, LayerState, given_variable}
use Rattle.gn_environment.specs.Chains.{variable_in, unless_declared, shown, read_variable, read_of, read_in}
use Rattle.gn_environment.specs.Assigning.{declared_after, assigned_variable, put}
use Rattle.gn_environment.specs.Giving.{variables_given, all_given}
use Rattle.gn_environment.specs.Declaring.{DeclaresNothing}
use Rattle.gn_environment.proofs.Names.{order, by_order}

-- what holds of all that a table has, and of what is set, holds of all that it has then
module _ {A : Type 0} (P : A → Type 0) (name : List ℕ) where
  all_set : (a : A) (es : Table A) → AllByRecursion (λ (e : List ℕ × A). P e.1) es → P a → AllByRecursion (λ (e : List ℕ × A). P e.1) (with_name name a es)
  all_set a [] h p = (p, tt)
  all_set a (e ∷ es) h p =
      by_order (λ r. AllByRecursion (λ (d : List ℕ × A). P d.1) (match_ordering r ((name, a) ∷ e ∷ es) ((e.0, a) ∷ es) (e ∷ with_name name a es))) (order name e.0) (p, h) (p, h.1) (h.0, all_set a es h.1 p)

  all_found : (es : Table A) (a : A) → AllByRecursion (λ (e : List ℕ × A). P e.1) es → at_name name es ≡ Some a → P a
  all_found [] a h f = cc
  all_found (e ∷ es) a h f =
      elim (is_eq (order name e.0)) as (λ b. cond b (Some e.1) (at_name name es) ≡ Some a → P a) [
        | true ↦ λ g. subst P (same_Some e.1 a g) h.0
        | false ↦ λ g. all_found es a h.1 g
      ] f

abbrev IsUndeclared : VariableState → Type 0
IsUndeclared v = v.declared ≡ None

-- a layer with a name set to what isn't declared
set_undeclared : (name : List ℕ) (v : VariableState) (layer : LayerState) → IsUndeclared v → DeclaresNothing layer → DeclaresNothing (record layer { variables = with_name name v layer.variables })
set_undeclared name v layer p h = record { declares = h.declares; variables = all_set IsUndeclared name v layer.variables h.variables p }

undeclared_after : (position : Position) (declares : Bool) (o : Option VariableState) → declares ≡ false → ((v : VariableState) → o ≡ Some v → IsUndeclared v) → declared_after declares o position ≡ None
undeclared_after position declares None d f = ap (λ b. cond b (Some position) None) d
undeclared_after position declares (Some v) d f = f v refl

pub assigned_plain : (name : List ℕ) (value : Val) (position : Position) (layer : LayerState) → DeclaresNothing layer → DeclaresNothing (put name value position layer)
assigned_plain name value position layer h =
    set_undeclared name (assigned_variable layer.declares (variable_in name layer) value position) layer
    (undeclared_after position layer.declares (variable_in name layer) h.declares (λ v is. all_found IsUndeclared name layer.variables v h.variables is)) h

variables_plain : (entries : Table Val) (vs : Table VariableState) → AllByRecursion (λ (e : List ℕ × VariableState). IsUndeclared e.1) vs → AllByRecursion (λ (e : List ℕ × VariableState). IsUndeclared e.1) (variables_given entries vs)
variables_plain [] vs h = h
variables_plain (e ∷ es) vs h =
    variables_plain es (with_name e.0 (given_variable e.1) vs) (all_set IsUndeclared e.0 (given_variable e.1) vs h refl)

pub given_plain : (entries : Table Val) (layer : LayerState) → DeclaresNothing layer → DeclaresNothing (all_given entries layer)
given_plain entries layer h = record { declares = h.declares; variables = variables_plain entries layer.variables h.variables }

read_plain_of : (name : List ℕ) (layer : LayerState) (o : Option VariableState) → DeclaresNothing layer → ((v : VariableState) → o ≡ Some v → IsUndeclared v) → DeclaresNothing (read_of name layer o)
read_plain_of name layer (Some v) h f = set_undeclared name (read_variable v) layer (f v refl) h
read_plain_of name layer None h f = h

pub read_plain : (name : List ℕ) (layer : LayerState) → DeclaresNothing layer → DeclaresNothing (read_in name layer)
read_plain name layer h =
    read_plain_of name layer (variable_in name layer) h (λ v is. all_found IsUndeclared name layer.variables v h.variables is)

pub shown_plain : (name : List ℕ) (layer : LayerState) (v : VariableState) → DeclaresNothing layer → variable_in name layer ≡ Some v → shown v ≡ Some v.value
shown_plain name layer v h is =
    ap (λ d. unless_declared d v.value) (all_found IsUndeclared name layer.variables v h.variables is)
