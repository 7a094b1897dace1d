-- Which refusal each error of an assignment stands for: want of memory stands for none.
use Rattle.std.specs.Prelude.{◌≡◌, Option, Some, None, Result, Err}
use Rattle.gn_values.specs.Val.{Val}
use Rattle.gn_values.specs.declared.error.ValueError.{ValueError}
use Rattle.gn_values.specs.declared.error.ElementError.{ElementError}
use Rattle.gn_values.specs.declared.error.ElementError.TheVariants.{Subscript as SubscriptRefused, Operator as OperatorRefused}
use Rattle.gn_environment.specs.Assigning.{Refusal, replaces_nonempty, has_no_value, operator_refuses, ElementRefusal, base_has_no_value, element_refuses}
use Rattle.gn_layers.specs.declared.error.AssignError.{AssignError}
use Rattle.gn_layers.specs.declared.error.AssignError.TheVariants.{Overwrite, Undefined, Value, Memory}
use Rattle.gn_layers.specs.declared.error.ElementAssignError.{ElementAssignError}
use Rattle.gn_layers.specs.declared.error.ElementAssignError.TheVariants.{Undefined as NoBase, Subscript, Operator, Memory as NoMemory}

abbrev pub refusal_of : AssignError → Option Refusal
refusal_of Overwrite = Some replaces_nonempty
refusal_of Undefined = Some has_no_value
refusal_of (Value e) = Some (operator_refuses e)
refusal_of Memory = None

abbrev pub element_refusal_of : ElementAssignError → Option ElementRefusal
element_refusal_of NoBase = Some base_has_no_value
element_refusal_of (Subscript e) = Some (element_refuses (SubscriptRefused e))
element_refusal_of (Operator e) = Some (element_refuses (OperatorRefused e))
element_refusal_of NoMemory = None

-- the error of a step on a value, where the step's answer is this
abbrev pub IsRefusalOf : AssignError → Result Val ValueError → Type 0
IsRefusalOf (Value e) answer = answer ≡ Err e
IsRefusalOf Memory answer = Unit {0}
IsRefusalOf _ answer = ⊥

abbrev pub IsElementRefusalOf : ElementAssignError → Result Val ElementError → Type 0
IsElementRefusalOf (Subscript e) answer = answer ≡ Err (SubscriptRefused e)
IsElementRefusalOf (Operator e) answer = answer ≡ Err (OperatorRefused e)
IsElementRefusalOf NoMemory answer = Unit {0}
IsElementRefusalOf NoBase answer = ⊥
