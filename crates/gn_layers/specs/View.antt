-- What the variables of a layer stand for.
use Rattle.std.specs.Prelude.{ℕ, List, map}
use Rattle.gn_values.specs.Val.{Val}
use Rattle.gn_values.specs.View.{val_of}
use Rattle.gn_values.specs.declared.value.Value.{Value}
use Rattle.gn_layers.specs.declared.variable.Variable.{Variable}
use Rattle.gn_values.specs.Tables.{Table}
use Rattle.gn_environment.specs.Layers.{VariableState}

abbrev pub variable_state : Variable → VariableState
variable_state v = record { value = val_of v.value; unread = v.unread; declared = v.declared }

abbrev pub variables_in : List (List ℕ × Variable) → Table VariableState
variables_in es = map (λ (e : List ℕ × Variable). (e.0, variable_state e.1)) es

-- a name with the value that a variable has
abbrev pub pair_value : List ℕ × Variable → List ℕ × Val
pair_value e = (e.0, val_of e.1.value)

-- names with the values that these stand for
abbrev pub value_pairs : List (List ℕ × Value) → Table Val
value_pairs es = map (λ (e : List ℕ × Value). (e.0, val_of e.1)) es
