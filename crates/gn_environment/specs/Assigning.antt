-- Assigning: what `=`, `+=` and `-=` do to layers, and which refusal comes.
use Rattle.std.specs.Prelude.{ℕ, Bool, true, false, if◌then◌else◌, List, Option, Some, None, option_map, Result, Ok, Err}
use Rattle.gn_tree.specs.declared.position.Position.{Position}
use Rattle.gn_tree.specs.declared.operator.AssignOp.{AssignOp}
use Rattle.gn_tree.specs.declared.operator.AssignOp.TheVariants.{Set, Add, Subtract}
use Rattle.gn_values.specs.declared.error.ValueError.{ValueError}
use Rattle.gn_values.specs.Val.{Val, vlist, vscope, val_then, bind_then}
use Rattle.gn_values.specs.Assigning.{combined, element_assigned}
use Rattle.gn_values.specs.declared.error.ElementError.{ElementError}
use Rattle.gn_environment.specs.Layers.{VariableState, LayerState, ChainState}
use Rattle.gn_environment.specs.Chains.{variable_in, set_in, marked, further_value}

-- why an assignment is refused: a nonempty list or scope would be replaced, `+=` and `-=` find no value, or the operator refuses
pub data Refusal : Type 0 where
  replaces_nonempty : Refusal
  has_no_value : Refusal
  operator_refuses : ValueError → Refusal

-- whether a nonempty list would take the place of a nonempty list, or a nonempty scope that of a nonempty scope
abbrev pub replaces : Val → Val → Bool
replaces (vlist (val_then v vs)) (vlist (val_then w ws)) = true
replaces (vscope (bind_then m v bs)) (vscope (bind_then n w cs)) = true
replaces _ _ = false

-- the first assignment of a name makes it unread, and so does each further one while nothing has read it; a name that was read stays read
abbrev pub unread_after : Option VariableState → Position → Option Position
unread_after None position = Some position
unread_after (Some v) position = option_map (λ before. position) v.unread

-- the first assignment of a name in a layer that declares names declares it; each further one leaves it declared there
abbrev pub declared_after : Bool → Option VariableState → Position → Option Position
declared_after declares None position = if declares then Some position else None
declared_after declares (Some v) position = v.declared

-- a variable after an assignment of a value, where the layer had this at the name
abbrev pub assigned_variable : Bool → Option VariableState → Val → Position → VariableState
assigned_variable declares old value position = record { value = value; unread = unread_after old position; declared = declared_after declares old position }

-- the layer after an assignment of a value
abbrev pub put : List ℕ → Val → Position → LayerState → LayerState
put name value position layer = set_in name (Some (assigned_variable layer.declares (variable_in name layer) value position)) layer

-- the layers with the innermost one changed, unless that is refused
abbrev pub with_inner : {R : Type 0} → ChainState → Result LayerState R → Result ChainState R
with_inner chain (Ok layer) = Ok (record chain { inner = layer })
with_inner chain (Err r) = Err r

-- the layers after an assignment of a value to a name that is read further out
abbrev pub put_and_read : List ℕ → Val → Position → ChainState → ChainState
put_and_read name value position chain = record { inner = put name value position chain.inner; outer = marked name chain.outer }

abbrev pub overwritten_over : List ℕ → Val → Position → LayerState → Option VariableState → Result LayerState Refusal
overwritten_over name value position layer (Some old) = if replaces old.value value then Err replaces_nonempty else Ok (put name value position layer)
overwritten_over name value position layer None = Ok (put name value position layer)

-- `=`: over a nonempty list or scope of the innermost layer no nonempty one may be set
abbrev pub overwritten : List ℕ → Val → Position → LayerState → Result LayerState Refusal
overwritten name value position layer = overwritten_over name value position layer (variable_in name layer)

-- An assignment that changes what the name has: `step` makes the new value of the old one, `refuses` names its refusal, and `absent` is
-- the refusal where the name has no value.
module _ {E R : Type 0} (absent : R) (refuses : E → R) (step : Val → Result Val E) (name : List ℕ) (position : Position) where
  -- the layer with the value that the step leaves
  abbrev pub put_result : LayerState → Result Val E → Result LayerState R
  put_result layer (Ok value) = Ok (put name value position layer)
  put_result layer (Err e) = Err (refuses e)

  -- a layer that has the name, with what the step makes of its value
  abbrev pub changed_here : LayerState → Option VariableState → Result LayerState R
  changed_here layer (Some old) = put_result layer (step old.value)
  changed_here layer None = Err absent

  abbrev pub changed_in : LayerState → Result LayerState R
  changed_in layer = changed_here layer (variable_in name layer)

  -- a name at which the innermost layer has nothing: what is found further out is read there and copied inwards
  abbrev pub copied_inwards : ChainState → Option Val → Result ChainState R
  copied_inwards chain (Some old) = with_inner (record chain { outer = marked name chain.outer }) (put_result chain.inner (step old))
  copied_inwards chain None = Err absent

  -- a name of the innermost layer is changed there; `beneath` is what stands beneath all layers at the name
  abbrev pub changed_at : Option Val → ChainState → Option VariableState → Result ChainState R
  changed_at beneath chain (Some old) = with_inner chain (put_result chain.inner (step old.value))
  changed_at beneath chain None = copied_inwards chain (further_value name chain.outer beneath)

  abbrev pub changed_by : Option Val → ChainState → Result ChainState R
  changed_by beneath chain = changed_at beneath chain (variable_in name chain.inner)

-- `=`, and `+=` and `-=`, which need a value
unfoldable pub assigned : List ℕ → AssignOp → Val → Position → Option Val → ChainState → Result ChainState Refusal
assigned name Set value position beneath chain = with_inner chain (overwritten name value position chain.inner)
assigned name Add value position beneath chain = changed_by has_no_value operator_refuses (λ old. combined Add old value) name position beneath chain
assigned name Subtract value position beneath chain = changed_by has_no_value operator_refuses (λ old. combined Subtract old value) name position beneath chain

-- why an assignment to an element is refused: the name has no value, or the element's assignment is refused
pub data ElementRefusal : Type 0 where
  base_has_no_value : ElementRefusal
  element_refuses : ElementError → ElementRefusal

-- `a[i] = v`, `a.b = v` and their kin are assignments of `a`, and need a value
unfoldable pub element_changed : List ℕ → Val → AssignOp → Val → Position → Option Val → ChainState → Result ChainState ElementRefusal
element_changed name at op value position beneath chain =
    changed_by base_has_no_value element_refuses (λ old. element_assigned old at op value) name position beneath chain
