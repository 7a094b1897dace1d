-- The layers of scopes, as contracts see them.
use Rattle.std.specs.Prelude.{ℕ, Bool, true, false, List, [], map, Option, None}
use Rattle.gn_tree.specs.declared.position.Position.{Position}
use Rattle.gn_values.specs.Val.{Val}
use Rattle.gn_values.specs.Tables.{Table}
use Rattle.gn_definitions.specs.declared.kept.DefinitionName.{DefinitionName}

-- what a name stands for in a layer
pub record VariableState : Type 0 where
  pub value : Val
  -- the operator of the last assignment, while nothing has read the name since its first
  pub unread : Option Position
  -- where it was declared, if it is the name of an argument that a block declares: the operator of its first assignment, or the call that gave it. No
  -- read finds its value then
  pub declared : Option Position

-- a variable that is given a value, which counts as read
abbrev pub given_variable : Val → VariableState
given_variable value = record { value = value; unread = None; declared = None }

-- a layer: its variables, the templates by the names of their definitions, the defaults of each kind of call, whether names that nothing reads are
-- reported at its end, and whether the names that are assigned in it are declared
pub record LayerState : Type 0 where
  pub variables : Table VariableState
  pub templates : Table DefinitionName
  pub defaults : Table (Table Val)
  pub checked : Bool
  pub declares : Bool

-- a layer in which nothing is set
abbrev pub empty_layer : Bool → LayerState
empty_layer checked = record { variables = []; templates = []; defaults = []; checked = checked; declares = false }

-- the layer of a block that declares arguments, in which nothing is set
abbrev pub declaring_layer : LayerState
declaring_layer = record (empty_layer false) { declares = true }

-- layers, the innermost first
pub record ChainState : Type 0 where
  pub inner : LayerState
  pub outer : List LayerState

-- the values that stand directly in a layer, those of declared names too
abbrev pub values_in : LayerState → Table Val
values_in layer = map (λ (v : List ℕ × VariableState). (v.0, v.1.value)) layer.variables
