-- A layer after an assignment in place: what was assigned, or why it was refused.
use Rattle.std.proofs.Common.{◌≡◌, ℕ, List, Bool, true, false, cond, Some, None, Result, Ok, Err, IfSome, refl, sym, ap, ◌∙◌}
use Rattle.std.specs.Map.{lookup, set_value, keys_of}
use Rattle.std.specs.BTreeMap.{is_at}
use Rattle.std.specs.List.Sorted.{IsStrictlySortedBy}
use Rattle.gn_tree.specs.declared.position.Position.{Position}
use Rattle.gn_values.specs.Val.{Val}
use Rattle.gn_values.specs.View.{val_of}
use Rattle.gn_values.specs.declared.error.ValueError.{ValueError}
use Rattle.gn_values.specs.declared.error.ElementError.{ElementError}
use Rattle.gn_values.specs.Tables.{Table}
use Rattle.gn_definitions.specs.declared.kept.DefinitionName.{DefinitionName}
use Rattle.gn_environment.specs.Layers.{LayerState}
use Rattle.gn_environment.specs.Chains.{variable_in}
use Rattle.gn_environment.specs.Assigning.{replaces, put, overwritten, overwritten_over, changed_in, changed_here, put_result, replaces_nonempty, has_no_value, operator_refuses, base_has_no_value, element_refuses}
use Rattle.gn_layers.specs.Errors.{refusal_of, element_refusal_of, IsRefusalOf, IsElementRefusalOf}
use Rattle.gn_layers.specs.View.{variable_state}
use Rattle.gn_layers.specs.declared.variable.Variable.{Variable}
use Rattle.gn_layers.specs.declared.error.AssignError.{AssignError}
use Rattle.gn_layers.specs.declared.error.AssignError.TheVariants.{Overwrite, Undefined, Value, Memory}
use Rattle.gn_layers.specs.declared.error.ElementAssignError.{ElementAssignError}
use Rattle.gn_layers.specs.declared.error.ElementAssignError.TheVariants.{Undefined as NoBase, Subscript, Operator, Memory as NoMemory}
use Rattle.gn_basics.proofs.Orders.{order}
use Rattle.gn_layers.proofs.Tables.{layer_with, not_there, is_there, same_there, put_there, IsNoted}

module _ (templates : Table DefinitionName) (defaults : Table (Table Val)) (checked declares : Bool) (name : List ℕ) (es : List (List ℕ × Variable)) (layer : LayerState) (view : layer_with templates defaults checked declares es ≡ layer) where
  pub absent_in : None ≡ lookup (is_at (order name)) es → variable_in name layer ≡ None
  absent_in h = ap (variable_in name) (sym view) ∙ not_there templates defaults checked declares name es h

  pub present_in : (v : Variable) → Some v ≡ lookup (is_at (order name)) es → variable_in name layer ≡ Some (variable_state v)
  present_in v h = ap (variable_in name) (sym view) ∙ is_there templates defaults checked declares name es v h

  -- a change of a name that isn't there
  pub change_absent : {E R : Type 0} (absent : R) (refuses : E → R) (step : Val → Result Val E) (position : Position) → None ≡ lookup (is_at (order name)) es → changed_in absent refuses step name position layer ≡ Err absent
  change_absent absent refuses step position h = ap (changed_here absent refuses step name position layer) (absent_in h)

  -- the variable that is there is written
  module _ (ns : List (List ℕ × Variable)) (v w : Variable) (h : Some v ≡ lookup (is_at (order name)) es) (sorted : IsStrictlySortedBy order (keys_of es)) (written : ns ≡ set_value (is_at (order name)) es w) where
    pub stays : variable_state w ≡ variable_state v → layer_with templates defaults checked declares ns ≡ layer
    stays is = same_there templates defaults checked declares name es ns v w h sorted written is ∙ view

    pub puts : (value : Val) (position : Position) → val_of w.value ≡ value → IsNoted v w position → layer_with templates defaults checked declares ns ≡ put name value position layer
    puts value position e f =
        put_there templates defaults checked declares name es ns v w h sorted written value position e f ∙ ap (put name value position) view

    pub changes : {E R : Type 0} (absent : R) (refuses : E → R) (step : Val → Result Val E) (position : Position) → step (val_of v.value) ≡ Ok (val_of w.value) → IsNoted v w position → changed_in absent refuses step name position layer ≡ Ok (layer_with templates defaults checked declares ns)
    changes absent refuses step position e f =
        ap (changed_here absent refuses step name position layer) (present_in v h) ∙ ap (put_result absent refuses step name position layer) e ∙ ap Ok (sym (puts (val_of w.value) position refl f))

    pub change_refused : {E R : Type 0} (absent : R) (refuses : E → R) (step : Val → Result Val E) (position : Position) (e : E) → step (val_of v.value) ≡ Err e → changed_in absent refuses step name position layer ≡ Err (refuses e)
    change_refused absent refuses step position e f =
        ap (changed_here absent refuses step name position layer) (present_in v h) ∙ ap (put_result absent refuses step name position layer) f

    pub overwrites : (value : Val) (position : Position) → replaces (val_of v.value) value ≡ false → val_of w.value ≡ value → IsNoted v w position → overwritten name value position layer ≡ Ok (layer_with templates defaults checked declares ns)
    overwrites value position b e f =
        ap (overwritten_over name value position layer) (present_in v h) ∙ ap (λ r. cond r (Err replaces_nonempty) (Ok (put name value position layer))) b ∙ ap Ok (sym (puts value position e f))

    pub overwrite_refused : (value : Val) (position : Position) → replaces (val_of v.value) value ≡ true → overwritten name value position layer ≡ Err replaces_nonempty
    overwrite_refused value position b =
        ap (overwritten_over name value position layer) (present_in v h) ∙ ap (λ r. cond r (Err replaces_nonempty) (Ok (put name value position layer))) b

  pub overwrite_absent : (value : Val) (position : Position) (after : LayerState) → None ≡ lookup (is_at (order name)) es → after ≡ put name value position layer → overwritten name value position layer ≡ Ok after
  overwrite_absent value position after h e =
      ap (overwritten_over name value position layer) (absent_in h) ∙ ap Ok (sym e)

  module _ (ns : List (List ℕ × Variable)) (v w : Variable) (h : Some v ≡ lookup (is_at (order name)) es) (sorted : IsStrictlySortedBy order (keys_of es)) (written : ns ≡ set_value (is_at (order name)) es w) where
    pub combine_refused : (step : Val → Result Val ValueError) (position : Position) (e : AssignError) → IsRefusalOf e (step (val_of v.value)) → IfSome (refusal_of e) (λ r. changed_in has_no_value operator_refuses step name position layer ≡ Err r)
    combine_refused step position Overwrite f = absurd f
    combine_refused step position Undefined f = absurd f
    combine_refused step position (Value e) f = change_refused ns v w h sorted written has_no_value operator_refuses step position e f
    combine_refused step position Memory f = tt

    pub element_refused : (step : Val → Result Val ElementError) (position : Position) (e : ElementAssignError) → IsElementRefusalOf e (step (val_of v.value)) → IfSome (element_refusal_of e) (λ r. changed_in base_has_no_value element_refuses step name position layer ≡ Err r)
    element_refused step position NoBase f = absurd f
    element_refused step position (Subscript e) f = change_refused ns v w h sorted written base_has_no_value element_refuses step position _ f
    element_refused step position (Operator e) f = change_refused ns v w h sorted written base_has_no_value element_refuses step position _ f
    element_refused step position NoMemory f = tt
