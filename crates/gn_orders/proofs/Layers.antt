-- Layers stay in order: reads, assignments, and names that are given, taken away and declared.
use Rattle.std.proofs.Common.{ℕ, Bool, true, false, if◌then◌else◌, List, [], ◌∷◌, map, Option, Some, None, Result, Ok, Err, IfOk}
use Rattle.std.specs.List.{AllByRecursion}
use Rattle.gn_tree.specs.declared.position.Position.{Position}
use Rattle.gn_tree.specs.declared.operator.AssignOp.{AssignOp}
use Rattle.gn_tree.specs.declared.operator.AssignOp.TheVariants.{Set, Add, Subtract}
use Rattle.gn_values.specs.Val.{Val}
use Rattle.gn_values.specs.Tables.{Table}
use Rattle.gn_values.specs.Assigning.{combined, element_assigned}
use Rattle.gn_environment.specs.Layers.{VariableState, LayerState, ChainState, empty_layer, values_in}
use Rattle.gn_environment.specs.Chains.{variable_in, set_in, read_variable, read_of, read_in, read_through, marked, further_value, chain_read, chain_read_of, chain_left, is_one_of, read_unless, all_read, all_read_but, names_read}
use Rattle.gn_environment.specs.Assigning.{Refusal, has_no_value, operator_refuses, put, with_inner, overwritten, overwritten_over, replaces, put_result, changed_at, copied_inwards, assigned, base_has_no_value, element_refuses, element_changed}
use Rattle.gn_environment.specs.Shown.{IsInOrder}
use Rattle.gn_environment.specs.Templates.{in_block}
use Rattle.gn_environment.specs.Declaring.{declared_at, declared_of, declared_in}
use Rattle.gn_environment.specs.Imports.{scope_left, whole_scope}
use Rattle.gn_orders.specs.InOrder.{IsLayerInOrder, IsChainInOrder, IsScopeInOrder}
use Rattle.gn_orders.proofs.Tables.{set_in_order, without_in_order, changed_in_order, left_in_order, empty_in_order, empty_table, table_left}

pub empty_layer_so : (checked : Bool) → IsLayerInOrder (empty_layer checked)
empty_layer_so checked = record { variables = empty_in_order; templates = empty_in_order; defaults = empty_table }

-- a layer with other variables
variables_so : (layer : LayerState) (variables : Table VariableState) → IsLayerInOrder layer → IsInOrder variables → IsLayerInOrder (record layer { variables = variables })
variables_so layer variables l s = record { variables = s; templates = l.templates; defaults = l.defaults }

module _ (name : List ℕ) where
  pub set_so : (o : Option VariableState) (layer : LayerState) → IsLayerInOrder layer → IsLayerInOrder (set_in name o layer)
  set_so (Some v) layer l = variables_so layer _ l (set_in_order name v layer.variables l.variables)
  set_so None layer l = variables_so layer _ l (without_in_order name layer.variables l.variables)

  -- Reads

  read_of_so : (o : Option VariableState) (layer : LayerState) → IsLayerInOrder layer → IsLayerInOrder (read_of name layer o)
  read_of_so (Some v) layer l = set_so (Some (read_variable v)) layer l
  read_of_so None layer l = l

  pub read_in_so : (layer : LayerState) → IsLayerInOrder layer → IsLayerInOrder (read_in name layer)
  read_in_so layer l = read_of_so (variable_in name layer) layer l

  through_so : (layer : LayerState) (ls further : List LayerState) (o : Option VariableState) → IsLayerInOrder layer → AllByRecursion IsLayerInOrder ls → AllByRecursion IsLayerInOrder further → AllByRecursion IsLayerInOrder (read_through name layer ls o further)
  through_so layer ls further (Some v) l all more = (set_so (Some (read_variable v)) layer l, all)
  through_so layer ls further None l all more = (l, more)

  pub marked_so : (ls : List LayerState) → AllByRecursion IsLayerInOrder ls → AllByRecursion IsLayerInOrder (marked name ls)
  marked_so [] all = tt
  marked_so (l ∷ ls) all = through_so l ls (marked name ls) (variable_in name l) all.0 all.1 (marked_so ls all.1)

  read_chain_so : (o : Option VariableState) (chain : ChainState) → IsChainInOrder chain → IsChainInOrder (chain_read_of name chain o)
  read_chain_so (Some v) chain c = record { inner = set_so (Some (read_variable v)) chain.inner c.inner; outer = c.outer }
  read_chain_so None chain c = record { inner = c.inner; outer = marked_so chain.outer c.outer }

  pub chain_read_so : (chain : ChainState) → IsChainInOrder chain → IsChainInOrder (chain_read name chain)
  unfolding chain_read
  chain_read_so chain c = read_chain_so (variable_in name chain.inner) chain c

pub all_read_so : (layer : LayerState) → IsLayerInOrder layer → IsLayerInOrder (all_read layer)
all_read_so layer l = variables_so layer _ l (changed_in_order (λ (v : List ℕ × VariableState). read_variable v.1) layer.variables l.variables)

pub all_read_but_so : (except : List (List ℕ)) (layer : LayerState) → IsLayerInOrder layer → IsLayerInOrder (all_read_but except layer)
all_read_but_so except layer l =
    variables_so layer _ l (changed_in_order (λ (v : List ℕ × VariableState). read_unless (is_one_of v.0 except) v.1) layer.variables l.variables)

pub names_read_so : (names except : List (List ℕ)) (layer : LayerState) → IsLayerInOrder layer → IsLayerInOrder (names_read names except layer)
names_read_so [] except layer l = l
names_read_so (n ∷ ns) except layer l =
    elim (is_one_of n except) as (λ b. IsLayerInOrder (names_read ns except (if b then layer else read_in n layer))) [ true ↦ names_read_so ns except layer l | false ↦ names_read_so ns except (read_in n layer) (read_in_so n layer l) ]

pub layers_read_so : (ls : List LayerState) → AllByRecursion IsLayerInOrder ls → AllByRecursion IsLayerInOrder (map all_read ls)
layers_read_so [] all = tt
layers_read_so (l ∷ ls) all = (all_read_so l all.0, layers_read_so ls all.1)

-- Declared names

declared_of_so : (name : List ℕ) (position : Position) (o : Option VariableState) (layer : LayerState) → IsLayerInOrder layer → IsLayerInOrder (declared_of name position layer o)
declared_of_so name position (Some v) layer l = set_so name (Some (declared_at position v)) layer l
declared_of_so name position None layer l = l

pub declared_so : (name : List ℕ) (position : Position) (layer : LayerState) → IsLayerInOrder layer → IsLayerInOrder (declared_in name position layer)
declared_so name position layer l =
    elim layer.declares as (λ b. IsLayerInOrder (if b then declared_of name position layer (variable_in name layer) else layer)) [ true ↦ declared_of_so name position (variable_in name layer) layer l | false ↦ l ]

-- Layers that are open

pub block_so : (change : LayerState → LayerState) → ((layer : LayerState) → IsLayerInOrder layer → IsLayerInOrder (change layer)) → (chain : ChainState) → IsChainInOrder chain → IsChainInOrder (in_block change chain)
block_so change k chain c = record { inner = k chain.inner c.inner; outer = c.outer }

pub opened_so : (layer : LayerState) → IsLayerInOrder layer → (chain : ChainState) → IsChainInOrder chain → IsChainInOrder (record { inner = layer; outer = chain.inner ∷ chain.outer })
opened_so layer l chain c = record { inner = l; outer = (c.inner, c.outer) }

pub chain_left_so : (chain : ChainState) → IsChainInOrder chain → IsChainInOrder (chain_left chain)
chain_left_so chain c = by chain.inner chain.outer c.outer
  where
    by : (inner : LayerState) (outer : List LayerState) → AllByRecursion IsLayerInOrder outer → IsChainInOrder (chain_left (record { inner = inner; outer = outer }))
    by inner [] all = record { inner = empty_layer_so false; outer = tt }
    by inner (l ∷ ls) all = record { inner = all.0; outer = all.1 }

-- Assignments

abbrev IsLayerSo : {R : Type 0} → Result LayerState R → Type 0
IsLayerSo r = IfOk r IsLayerInOrder

abbrev pub IsChainSo : {R : Type 0} → Result ChainState R → Type 0
IsChainSo r = IfOk r IsChainInOrder

inner_so : {R : Type 0} (chain : ChainState) (r : Result LayerState R) → AllByRecursion IsLayerInOrder chain.outer → IsLayerSo r → IsChainSo (with_inner chain r)
inner_so chain (Ok layer) all l = record { inner = l; outer = all }
inner_so chain (Err e) all l = tt

overwritten_so : (name : List ℕ) (value : Val) (position : Position) (layer : LayerState) (o : Option VariableState) → IsLayerInOrder layer → IsLayerSo (overwritten_over name value position layer o)
overwritten_so name value position layer None l = set_so name (Some _) layer l
overwritten_so name value position layer (Some old) l =
    elim (replaces old.value value) as (λ b. IsLayerSo (if b then Err Refusal.replaces_nonempty else Ok (put name value position layer))) [ true ↦ tt | false ↦ set_so name (Some _) layer l ]

module _ {E R : Type 0} (absent : R) (refuses : E → R) (step : Val → Result Val E) (name : List ℕ) (position : Position) where
  put_so : (layer : LayerState) (r : Result Val E) → IsLayerInOrder layer → IsLayerSo (put_result absent refuses step name position layer r)
  put_so layer (Ok value) l = set_so name (Some _) layer l
  put_so layer (Err e) l = tt

  copied_so : (chain : ChainState) (o : Option Val) → IsChainInOrder chain → IsChainSo (copied_inwards absent refuses step name position chain o)
  copied_so chain (Some old) c =
      inner_so (record chain { outer = marked name chain.outer }) (put_result absent refuses step name position chain.inner (step old)) (marked_so name chain.outer c.outer) (put_so chain.inner (step old) c.inner)
  copied_so chain None c = tt

  changed_so : (beneath : Option Val) (chain : ChainState) (o : Option VariableState) → IsChainInOrder chain → IsChainSo (changed_at absent refuses step name position beneath chain o)
  changed_so beneath chain (Some old) c =
      inner_so chain (put_result absent refuses step name position chain.inner (step old.value)) c.outer (put_so chain.inner (step old.value) c.inner)
  changed_so beneath chain None c = copied_so chain (further_value name chain.outer beneath) c

pub assigned_so : (name : List ℕ) (op : AssignOp) (value : Val) (position : Position) (beneath : Option Val) (chain : ChainState) → IsChainInOrder chain → IsChainSo (assigned name op value position beneath chain)
unfolding assigned
assigned_so name Set value position beneath chain c =
    inner_so chain (overwritten name value position chain.inner) c.outer (overwritten_so name value position chain.inner (variable_in name chain.inner) c.inner)
assigned_so name Add value position beneath chain c =
    changed_so has_no_value operator_refuses (λ old. combined Add old value) name position beneath chain (variable_in name chain.inner) c
assigned_so name Subtract value position beneath chain c =
    changed_so has_no_value operator_refuses (λ old. combined Subtract old value) name position beneath chain (variable_in name chain.inner) c

pub element_so : (name : List ℕ) (at : Val) (op : AssignOp) (value : Val) (position : Position) (beneath : Option Val) (chain : ChainState) → IsChainInOrder chain → IsChainSo (element_changed name at op value position beneath chain)
unfolding element_changed
element_so name at op value position beneath chain c =
    changed_so base_has_no_value element_refuses (λ old. element_assigned old at op value) name position beneath chain (variable_in name chain.inner) c

-- What is left of a layer

pub values_so : (layer : LayerState) → IsLayerInOrder layer → IsInOrder (values_in layer)
values_so layer l = changed_in_order (λ (v : List ℕ × VariableState). v.1.value) layer.variables l.variables

pub scope_left_so : (layer : LayerState) → IsLayerInOrder layer → IsScopeInOrder (scope_left layer)
scope_left_so layer l = record {
  variables = left_in_order _ (values_in layer) (values_so layer l);
  templates = left_in_order _ layer.templates l.templates;
  defaults = table_left _ layer.defaults l.defaults;
}

pub whole_scope_so : (layer : LayerState) → IsLayerInOrder layer → IsScopeInOrder (whole_scope layer)
whole_scope_so layer l = record { variables = values_so layer l; templates = l.templates; defaults = l.defaults }
