-- Layers by numbers, and by the names that these are the numbers of: each step does the same to both.
use Rattle.std.proofs.Common.{◌≡◌, ℕ, Bool, true, false, if◌then◌else◌, List, [], ◌∷◌, ◌++◌, map, slice_get, Option, Some, None, Result, Ok, Err, IfOk, refl, sym, ap, ◌∙◌}
use Rattle.std.specs.List.{list_any, AllByRecursion}
use Rattle.std.specs.Str.{bytes_eq}
use Rattle.gn_text.specs.Names.{AllDifferent}
use Rattle.gn_tree.specs.declared.position.Position.{Position}
use Rattle.gn_tree.specs.declared.operator.AssignOp.{AssignOp}
use Rattle.gn_tree.specs.declared.operator.AssignOp.TheVariants.{Set, Add, Subtract}
use Rattle.gn_values.specs.Val.{Val}
use Rattle.gn_values.specs.Tables.{Table}
use Rattle.gn_values.specs.Assigning.{combined, element_assigned}
use Rattle.gn_environment.specs.Layers.{VariableState, LayerState, ChainState, values_in}
use Rattle.gn_environment.specs.Chains.{variable_in, set_in, nearest, variable_of, further_value, shown_or, read_variable, read_of, read_in, read_through, marked, chain_variable, chain_read, chain_read_of, chain_entered, chain_left, is_one_of, read_unless, all_read, all_read_but, chain_all_read}
use Rattle.gn_environment.specs.Declaring.{chain_declaring, declared_at, declared_of, declared_in}
use Rattle.gn_environment.specs.Assigning.{replaces, replaces_nonempty, has_no_value, operator_refuses, base_has_no_value, element_refuses, assigned_variable, put, with_inner, overwritten_over, overwritten, put_result, copied_inwards, changed_at, changed_by, assigned, element_changed}
use Rattle.gn_layers.specs.Named.{key, named, named_layer, named_chain, IsNumberedLayer, IsNumberedChain, all_read_but_named}
use Rattle.gn_scopes.proofs.NamedTables.{named_longer, named-map, at_number, with_number, without_number, at_no_number, without_no_number, IsNumbered-empty, IsNumbered-longer, IsNumbered-map, IsNumbered-with_name, IsNumbered-without_name}

-- what an answer says by names
abbrev pub named_answer : {E : Type 0} → List (List ℕ) → Result ChainState E → Result ChainState E
named_answer names (Ok chain) = Ok (named_chain names chain)
named_answer names (Err e) = Err e

-- a layer with other variables
with_variables : (l : LayerState) {vs ws : Table VariableState} → vs ≡ ws → record l { variables = vs } ≡ record l { variables = ws }
with_variables l e = ap (λ (us : Table VariableState). record l { variables = us }) e

-- the innermost layer, and those behind it
abbrev chain_of : LayerState → List LayerState → ChainState
chain_of inner outer = record { inner = inner; outer = outer }

same_chain : {a b : LayerState} {ls ms : List LayerState} → a ≡ b → ls ≡ ms → chain_of a ls ≡ chain_of b ms
same_chain e f = λ i. chain_of (e i) (f i)

-- Steps that no name is given to

module _ (names : List (List ℕ)) where
  pub named_entered : (checked : Bool) (c : ChainState) → chain_entered checked (named_chain names c) ≡ named_chain names (chain_entered checked c)
  named_entered checked c = refl

  pub entered_numbered : (checked : Bool) (c : ChainState) → IsNumberedChain names c → IsNumberedChain names (chain_entered checked c)
  entered_numbered checked c numbered = record { different = numbered.different; inner = IsNumbered-empty names; outer = (numbered.inner, numbered.outer) }

  pub named_declaring : (c : ChainState) → chain_declaring (named_chain names c) ≡ named_chain names (chain_declaring c)
  named_declaring c = refl

  pub declaring_numbered : (c : ChainState) → IsNumberedChain names c → IsNumberedChain names (chain_declaring c)
  declaring_numbered c numbered = record { different = numbered.different; inner = IsNumbered-empty names; outer = (numbered.inner, numbered.outer) }

  pub named_left : (c : ChainState) → chain_left (named_chain names c) ≡ named_chain names (chain_left c)
  named_left c = left_by c.outer
    where
      left_by : (ls : List LayerState) → chain_left (named_chain names (record c { outer = ls })) ≡ named_chain names (chain_left (record c { outer = ls }))
      left_by [] = refl
      left_by (l ∷ ls) = refl

  pub left_numbered : (c : ChainState) → IsNumberedChain names c → IsNumberedChain names (chain_left c)
  left_numbered c numbered = left_by c.outer numbered.outer
    where
      left_by : (ls : List LayerState) → AllByRecursion (IsNumberedLayer names) ls → IsNumberedChain names (chain_left (record c { outer = ls }))
      left_by [] h = record { different = numbered.different; inner = IsNumbered-empty names; outer = tt }
      left_by (l ∷ ls) h = record { different = numbered.different; inner = h.0; outer = h.1 }

  pub named_all_read : (l : LayerState) → all_read (named_layer names l) ≡ named_layer names (all_read l)
  named_all_read l = with_variables l (sym (named-map names (λ (k : List ℕ) (v : VariableState). read_variable v) l.variables))

  pub all_read_numbered : (l : LayerState) → IsNumberedLayer names l → IsNumberedLayer names (all_read l)
  all_read_numbered l numbered = IsNumbered-map names (λ (k : List ℕ) (v : VariableState). read_variable v) l.variables numbered

  pub named_all_read_but : (except : List (List ℕ)) (l : LayerState) → all_read_but except (named_layer names l) ≡ named_layer names (all_read_but_named names except l)
  named_all_read_but except l = with_variables l (sym (named-map names (λ (k : List ℕ) (v : VariableState). read_unless (is_one_of k except) v) l.variables))

  pub all_read_but_numbered : (except : List (List ℕ)) (l : LayerState) → IsNumberedLayer names l → IsNumberedLayer names (all_read_but_named names except l)
  all_read_but_numbered except l numbered = IsNumbered-map names (λ (k : List ℕ) (v : VariableState). read_unless (is_one_of k except) v) l.variables numbered

  -- all layers outwards
  layers_all_read : (ls : List LayerState) → map all_read (map (named_layer names) ls) ≡ map (named_layer names) (map all_read ls)
  layers_all_read [] = refl
  layers_all_read (l ∷ ls) = λ i. named_all_read l i ∷ layers_all_read ls i

  layers_all_read_numbered : (ls : List LayerState) → AllByRecursion (IsNumberedLayer names) ls → AllByRecursion (IsNumberedLayer names) (map all_read ls)
  layers_all_read_numbered [] h = tt
  layers_all_read_numbered (l ∷ ls) h = (all_read_numbered l h.0, layers_all_read_numbered ls h.1)

  pub named_chain_all_read : (c : ChainState) → chain_all_read (named_chain names c) ≡ named_chain names (chain_all_read c)
  named_chain_all_read c = same_chain (named_all_read c.inner) (layers_all_read c.outer)

  pub chain_all_read_numbered : (c : ChainState) → IsNumberedChain names c → IsNumberedChain names (chain_all_read c)
  chain_all_read_numbered c numbered = record { different = numbered.different; inner = all_read_numbered c.inner numbered.inner; outer = layers_all_read_numbered c.outer numbered.outer }

  pub named_values_in : (l : LayerState) → values_in (named_layer names l) ≡ named names (values_in l)
  named_values_in l = sym (named-map names (λ (k : List ℕ) (v : VariableState). v.value) l.variables)

-- templates and defaults stand by names already
module _ (names : List (List ℕ)) where
  pub templates_of_named : (ls : List LayerState) → map (λ (l : LayerState). l.templates) (map (named_layer names) ls) ≡ map (λ (l : LayerState). l.templates) ls
  templates_of_named [] = refl
  templates_of_named (l ∷ ls) = ap (λ ts. l.templates ∷ ts) (templates_of_named ls)

  pub defaults_of_named : (ls : List LayerState) → map (λ (l : LayerState). l.defaults) (map (named_layer names) ls) ≡ map (λ (l : LayerState). l.defaults) ls
  defaults_of_named [] = refl
  defaults_of_named (l ∷ ls) = ap (λ ts. l.defaults ∷ ts) (defaults_of_named ls)

-- more names behind these change nothing
module _ (names more : List (List ℕ)) where
  pub layer_longer : (l : LayerState) → IsNumberedLayer names l → named_layer (names ++ more) l ≡ named_layer names l
  layer_longer l numbered = with_variables l (named_longer names more l.variables numbered)

  layers_longer : (ls : List LayerState) → AllByRecursion (IsNumberedLayer names) ls → map (named_layer (names ++ more)) ls ≡ map (named_layer names) ls
  layers_longer [] h = refl
  layers_longer (l ∷ ls) h = λ i. layer_longer l h.0 i ∷ layers_longer ls h.1 i

  layers_longer_numbered : (ls : List LayerState) → AllByRecursion (IsNumberedLayer names) ls → AllByRecursion (IsNumberedLayer (names ++ more)) ls
  layers_longer_numbered [] h = tt
  layers_longer_numbered (l ∷ ls) h = (IsNumbered-longer names more l.variables h.0, layers_longer_numbered ls h.1)

  pub chain_longer : (c : ChainState) → IsNumberedChain names c → named_chain (names ++ more) c ≡ named_chain names c
  chain_longer c numbered = same_chain (layer_longer c.inner numbered.inner) (layers_longer c.outer numbered.outer)

  pub longer_numbered : (c : ChainState) → AllDifferent (names ++ more) → IsNumberedChain names c → IsNumberedChain (names ++ more) c
  longer_numbered c different numbered = record { different = different; inner = IsNumbered-longer names more c.inner.variables numbered.inner; outer = layers_longer_numbered c.outer numbered.outer }

-- what an answer of one layer says by names
abbrev layer_answer : {E : Type 0} → List (List ℕ) → Result LayerState E → Result LayerState E
layer_answer names (Ok layer) = Ok (named_layer names layer)
layer_answer names (Err e) = Err e

-- the innermost layer is changed to what a step leaves of it
module _ {R : Type 0} (names : List (List ℕ)) (c : ChainState) where
  with_inner_named : (r : Result LayerState R) → with_inner (named_chain names c) (layer_answer names r) ≡ named_answer names (with_inner c r)
  with_inner_named (Ok l) = refl
  with_inner_named (Err e) = refl

  with_inner_numbered : IsNumberedChain names c → (r : Result LayerState R) → IfOk r (IsNumberedLayer names) → IfOk (with_inner c r) (IsNumberedChain names)
  with_inner_numbered numbered (Ok l) h = record { different = numbered.different; inner = h; outer = numbered.outer }
  with_inner_numbered numbered (Err e) h = tt

-- Steps at the number of a name

module _ (names : List (List ℕ)) (different : AllDifferent names) (name : List ℕ) (n : ℕ) (found : slice_get names n ≡ Some name) where
  module _ (l : LayerState) (numbered : IsNumberedLayer names l) where
    pub variable_named : variable_in name (named_layer names l) ≡ variable_in (key n) l
    variable_named = at_number names different name n found l.variables numbered

    pub set_named : (v : Option VariableState) → set_in name v (named_layer names l) ≡ named_layer names (set_in (key n) v l)
    set_named (Some v) = with_variables l (with_number names different name n found l.variables numbered v)
    set_named None = with_variables l (without_number names different name n found l.variables numbered)

    pub set_numbered : (v : Option VariableState) → IsNumberedLayer names (set_in (key n) v l)
    set_numbered (Some v) = IsNumbered-with_name names different name n found l.variables numbered v
    set_numbered None = IsNumbered-without_name names different name n found l.variables numbered

    -- a read where the layer has this
    read_of_named : (o : Option VariableState) → read_of name (named_layer names l) o ≡ named_layer names (read_of (key n) l o)
    read_of_named (Some v) = set_named (Some (read_variable v))
    read_of_named None = refl

    read_of_numbered : (o : Option VariableState) → IsNumberedLayer names (read_of (key n) l o)
    read_of_numbered (Some v) = set_numbered (Some (read_variable v))
    read_of_numbered None = numbered

    pub read_named : read_in name (named_layer names l) ≡ named_layer names (read_in (key n) l)
    read_named = ap (read_of name (named_layer names l)) variable_named ∙ read_of_named (variable_in (key n) l)

    pub read_numbered : IsNumberedLayer names (read_in (key n) l)
    read_numbered = read_of_numbered (variable_in (key n) l)

    -- the layers from this one outwards after a read where it has this
    read_through_named : (ls further : List LayerState) (o : Option VariableState) → read_through name (named_layer names l) (map (named_layer names) ls) o (map (named_layer names) further) ≡ map (named_layer names) (read_through (key n) l ls o further)
    read_through_named ls further (Some v) = ap (λ (x : LayerState). x ∷ map (named_layer names) ls) (set_named (Some (read_variable v)))
    read_through_named ls further None = refl

    read_through_numbered : (ls further : List LayerState) → AllByRecursion (IsNumberedLayer names) ls → AllByRecursion (IsNumberedLayer names) further → (o : Option VariableState) → AllByRecursion (IsNumberedLayer names) (read_through (key n) l ls o further)
    read_through_numbered ls further h g (Some v) = (set_numbered (Some (read_variable v)), h)
    read_through_numbered ls further h g None = (numbered, g)

    -- a call that gives the name, where the layer has this
    declared_of_named : (position : Position) (o : Option VariableState) → declared_of name position (named_layer names l) o ≡ named_layer names (declared_of (key n) position l o)
    declared_of_named position (Some v) = set_named (Some (declared_at position v))
    declared_of_named position None = refl

    declared_of_numbered : (position : Position) (o : Option VariableState) → IsNumberedLayer names (declared_of (key n) position l o)
    declared_of_numbered position (Some v) = set_numbered (Some (declared_at position v))
    declared_of_numbered position None = numbered

    pub declared_named : (position : Position) → declared_in name position (named_layer names l) ≡ named_layer names (declared_in (key n) position l)
    declared_named position =
        elim l.declares as (λ b. (if b then declared_of name position (named_layer names l) (variable_in name (named_layer names l)) else named_layer names l) ≡ named_layer names (if b then declared_of (key n) position l (variable_in (key n) l) else l)) [
          | true ↦ ap (declared_of name position (named_layer names l)) variable_named ∙ declared_of_named position (variable_in (key n) l)
          | false ↦ refl
        ]

    pub declared_numbered : (position : Position) → IsNumberedLayer names (declared_in (key n) position l)
    declared_numbered position =
        elim l.declares as (λ b. IsNumberedLayer names (if b then declared_of (key n) position l (variable_in (key n) l) else l)) [ true ↦ declared_of_numbered position (variable_in (key n) l) | false ↦ numbered ]

  pub variable_of_named : (ls : List LayerState) → AllByRecursion (IsNumberedLayer names) ls → variable_of name (map (named_layer names) ls) ≡ variable_of (key n) ls
  variable_of_named [] numbered = refl
  variable_of_named (l ∷ ls) numbered = λ i. nearest (variable_named l numbered.0 i) (variable_of_named ls numbered.1 i)

  pub marked_named : (ls : List LayerState) → AllByRecursion (IsNumberedLayer names) ls → marked name (map (named_layer names) ls) ≡ map (named_layer names) (marked (key n) ls)
  marked_named [] numbered = refl
  marked_named (l ∷ ls) numbered =
      (λ i. read_through name (named_layer names l) (map (named_layer names) ls) (variable_named l numbered.0 i) (marked_named ls numbered.1 i)) ∙ read_through_named l numbered.0 ls (marked (key n) ls) (variable_in (key n) l)

  pub marked_numbered : (ls : List LayerState) → AllByRecursion (IsNumberedLayer names) ls → AllByRecursion (IsNumberedLayer names) (marked (key n) ls)
  marked_numbered [] numbered = tt
  marked_numbered (l ∷ ls) numbered = read_through_numbered l numbered.0 ls (marked (key n) ls) numbered.1 (marked_numbered ls numbered.1) (variable_in (key n) l)

  -- a layer after an assignment of a value
  module _ (l : LayerState) (numbered : IsNumberedLayer names l) (value : Val) (position : Position) where
    put_named : put name value position (named_layer names l) ≡ named_layer names (put (key n) value position l)
    put_named =
        ap (λ (o : Option VariableState). set_in name (Some (assigned_variable l.declares o value position)) (named_layer names l)) (variable_named l numbered) ∙ set_named l numbered (Some (assigned_variable l.declares (variable_in (key n) l) value position))

    put_numbered : IsNumberedLayer names (put (key n) value position l)
    put_numbered = set_numbered l numbered (Some (assigned_variable l.declares (variable_in (key n) l) value position))

    overwritten_over_named : (o : Option VariableState) → overwritten_over name value position (named_layer names l) o ≡ layer_answer names (overwritten_over (key n) value position l o)
    overwritten_over_named (Some old) =
        elim (replaces old.value value) as (λ b. (if b then Err replaces_nonempty else Ok (put name value position (named_layer names l))) ≡ layer_answer names (if b then Err replaces_nonempty else Ok (put (key n) value position l))) [ true ↦ refl | false ↦ ap Ok put_named ]
    overwritten_over_named None = ap Ok put_named

    overwritten_over_numbered : (o : Option VariableState) → IfOk (overwritten_over (key n) value position l o) (IsNumberedLayer names)
    overwritten_over_numbered (Some old) =
        elim (replaces old.value value) as (λ b. IfOk (if b then Err replaces_nonempty else Ok (put (key n) value position l)) (IsNumberedLayer names)) [ true ↦ tt | false ↦ put_numbered ]
    overwritten_over_numbered None = put_numbered

    overwritten_named : overwritten name value position (named_layer names l) ≡ layer_answer names (overwritten (key n) value position l)
    overwritten_named =
        ap (overwritten_over name value position (named_layer names l)) (variable_named l numbered) ∙ overwritten_over_named (variable_in (key n) l)

    overwritten_numbered : IfOk (overwritten (key n) value position l) (IsNumberedLayer names)
    overwritten_numbered = overwritten_over_numbered (variable_in (key n) l)

  module _ (c : ChainState) (numbered : IsNumberedChain names c) where
    pub chain_variable_named : chain_variable name (named_chain names c) ≡ chain_variable (key n) c
    unfolding chain_variable
    chain_variable_named = variable_of_named (c.inner ∷ c.outer) (numbered.inner, numbered.outer)

    chain_read_of_named : (o : Option VariableState) → chain_read_of name (named_chain names c) o ≡ named_chain names (chain_read_of (key n) c o)
    chain_read_of_named (Some v) = same_chain (set_named c.inner numbered.inner (Some (read_variable v))) refl
    chain_read_of_named None = same_chain refl (marked_named c.outer numbered.outer)

    chain_read_of_numbered : (o : Option VariableState) → IsNumberedChain names (chain_read_of (key n) c o)
    chain_read_of_numbered (Some v) = record { different = different; inner = set_numbered c.inner numbered.inner (Some (read_variable v)); outer = numbered.outer }
    chain_read_of_numbered None = record { different = different; inner = numbered.inner; outer = marked_numbered c.outer numbered.outer }

    pub chain_read_named : chain_read name (named_chain names c) ≡ named_chain names (chain_read (key n) c)
    unfolding chain_read
    chain_read_named =
        ap (chain_read_of name (named_chain names c)) (variable_named c.inner numbered.inner) ∙ chain_read_of_named (variable_in (key n) c.inner)

    pub chain_read_numbered : IsNumberedChain names (chain_read (key n) c)
    unfolding chain_read
    chain_read_numbered = chain_read_of_numbered (variable_in (key n) c.inner)

    -- an assignment that changes what the name has
    module _ {E R : Type 0} (absent : R) (refuses : E → R) (step : Val → Result Val E) (position : Position) (beneath : Option Val) where
      put_result_named : (r : Result Val E) → put_result absent refuses step name position (named_layer names c.inner) r ≡ layer_answer names (put_result absent refuses step (key n) position c.inner r)
      put_result_named (Ok value) = ap Ok (put_named c.inner numbered.inner value position)
      put_result_named (Err e) = refl

      put_result_numbered : (r : Result Val E) → IfOk (put_result absent refuses step (key n) position c.inner r) (IsNumberedLayer names)
      put_result_numbered (Ok value) = put_numbered c.inner numbered.inner value position
      put_result_numbered (Err e) = tt

      copied_inwards_named : (o : Option Val) → copied_inwards absent refuses step name position (named_chain names c) o ≡ named_answer names (copied_inwards absent refuses step (key n) position c o)
      copied_inwards_named (Some old) =
          (λ i. with_inner (record { inner = named_layer names c.inner; outer = marked_named c.outer numbered.outer i }) (put_result_named (step old) i)) ∙ with_inner_named names (record c { outer = marked (key n) c.outer }) (put_result absent refuses step (key n) position c.inner (step old))
      copied_inwards_named None = refl

      copied_inwards_numbered : (o : Option Val) → IfOk (copied_inwards absent refuses step (key n) position c o) (IsNumberedChain names)
      copied_inwards_numbered (Some old) =
          with_inner_numbered names (record c { outer = marked (key n) c.outer }) (record { different = different; inner = numbered.inner; outer = marked_numbered c.outer numbered.outer }) (put_result absent refuses step (key n) position c.inner (step old)) (put_result_numbered (step old))
      copied_inwards_numbered None = tt

      further_named : further_value name (map (named_layer names) c.outer) beneath ≡ further_value (key n) c.outer beneath
      further_named = ap (λ (o : Option VariableState). shown_or o beneath) (variable_of_named c.outer numbered.outer)

      changed_at_named : (o : Option VariableState) → changed_at absent refuses step name position beneath (named_chain names c) o ≡ named_answer names (changed_at absent refuses step (key n) position beneath c o)
      changed_at_named (Some old) =
          ap (with_inner (named_chain names c)) (put_result_named (step old.value)) ∙ with_inner_named names c (put_result absent refuses step (key n) position c.inner (step old.value))
      changed_at_named None =
          ap (copied_inwards absent refuses step name position (named_chain names c)) further_named ∙ copied_inwards_named (further_value (key n) c.outer beneath)

      changed_at_numbered : (o : Option VariableState) → IfOk (changed_at absent refuses step (key n) position beneath c o) (IsNumberedChain names)
      changed_at_numbered (Some old) =
          with_inner_numbered names c numbered (put_result absent refuses step (key n) position c.inner (step old.value)) (put_result_numbered (step old.value))
      changed_at_numbered None = copied_inwards_numbered (further_value (key n) c.outer beneath)

      changed_by_named : changed_by absent refuses step name position beneath (named_chain names c) ≡ named_answer names (changed_by absent refuses step (key n) position beneath c)
      changed_by_named =
          ap (changed_at absent refuses step name position beneath (named_chain names c)) (variable_named c.inner numbered.inner) ∙ changed_at_named (variable_in (key n) c.inner)

      changed_by_numbered : IfOk (changed_by absent refuses step (key n) position beneath c) (IsNumberedChain names)
      changed_by_numbered = changed_at_numbered (variable_in (key n) c.inner)

    -- by the operator
    assigned_by : (op : AssignOp) (value : Val) (position : Position) (beneath : Option Val) → assigned name op value position beneath (named_chain names c) ≡ named_answer names (assigned (key n) op value position beneath c)
    unfolding assigned
    assigned_by Set value position beneath =
        ap (with_inner (named_chain names c)) (overwritten_named c.inner numbered.inner value position) ∙ with_inner_named names c (overwritten (key n) value position c.inner)
    assigned_by Add value position beneath = changed_by_named has_no_value operator_refuses (λ old. combined Add old value) position beneath
    assigned_by Subtract value position beneath = changed_by_named has_no_value operator_refuses (λ old. combined Subtract old value) position beneath

    assigned_by_numbered : (op : AssignOp) (value : Val) (position : Position) (beneath : Option Val) → IfOk (assigned (key n) op value position beneath c) (IsNumberedChain names)
    unfolding assigned
    assigned_by_numbered Set value position beneath =
        with_inner_numbered names c numbered (overwritten (key n) value position c.inner) (overwritten_numbered c.inner numbered.inner value position)
    assigned_by_numbered Add value position beneath = changed_by_numbered has_no_value operator_refuses (λ old. combined Add old value) position beneath
    assigned_by_numbered Subtract value position beneath = changed_by_numbered has_no_value operator_refuses (λ old. combined Subtract old value) position beneath

    -- `=`, `+=` and `-=`
    module _ (op : AssignOp) (value : Val) (position : Position) (beneath : Option Val) where
      pub assigned_named : assigned name op value position beneath (named_chain names c) ≡ named_answer names (assigned (key n) op value position beneath c)
      assigned_named = assigned_by op value position beneath

      pub assigned_numbered : IfOk (assigned (key n) op value position beneath c) (IsNumberedChain names)
      assigned_numbered = assigned_by_numbered op value position beneath

    -- the same of elements
    module _ (at : Val) (op : AssignOp) (value : Val) (position : Position) (beneath : Option Val) where
      pub element_changed_named : element_changed name at op value position beneath (named_chain names c) ≡ named_answer names (element_changed (key n) at op value position beneath c)
      unfolding element_changed
      element_changed_named = changed_by_named base_has_no_value element_refuses (λ old. element_assigned old at op value) position beneath

      pub element_changed_numbered : IfOk (element_changed (key n) at op value position beneath c) (IsNumberedChain names)
      unfolding element_changed
      element_changed_numbered = changed_by_numbered base_has_no_value element_refuses (λ old. element_assigned old at op value) position beneath

-- Steps at a name that has no number

module _ (names : List (List ℕ)) (name : List ℕ) (lacking : list_any (bytes_eq name) names ≡ false) where
  module _ (l : LayerState) (numbered : IsNumberedLayer names l) where
    pub variable_lacking : variable_in name (named_layer names l) ≡ None
    variable_lacking = at_no_number names name lacking l.variables numbered

    pub unset_lacking : set_in name None (named_layer names l) ≡ named_layer names l
    unset_lacking = with_variables l (without_no_number names name lacking l.variables numbered)

    pub declared_lacking : (position : Position) → declared_in name position (named_layer names l) ≡ named_layer names l
    declared_lacking position =
        elim l.declares as (λ b. (if b then declared_of name position (named_layer names l) (variable_in name (named_layer names l)) else named_layer names l) ≡ named_layer names l) [ true ↦ ap (declared_of name position (named_layer names l)) variable_lacking | false ↦ refl ]

    pub read_lacking : read_in name (named_layer names l) ≡ named_layer names l
    read_lacking = ap (read_of name (named_layer names l)) variable_lacking

  pub variable_of_lacking : (ls : List LayerState) → AllByRecursion (IsNumberedLayer names) ls → variable_of name (map (named_layer names) ls) ≡ None
  variable_of_lacking [] numbered = refl
  variable_of_lacking (l ∷ ls) numbered = λ i. nearest (variable_lacking l numbered.0 i) (variable_of_lacking ls numbered.1 i)

  pub marked_lacking : (ls : List LayerState) → AllByRecursion (IsNumberedLayer names) ls → marked name (map (named_layer names) ls) ≡ map (named_layer names) ls
  marked_lacking [] numbered = refl
  marked_lacking (l ∷ ls) numbered = λ i. read_through name (named_layer names l) (map (named_layer names) ls) (variable_lacking l numbered.0 i) (marked_lacking ls numbered.1 i)

  module _ (c : ChainState) (numbered : IsNumberedChain names c) where
    pub chain_variable_lacking : chain_variable name (named_chain names c) ≡ None
    unfolding chain_variable
    chain_variable_lacking = variable_of_lacking (c.inner ∷ c.outer) (numbered.inner, numbered.outer)

    pub chain_read_lacking : chain_read name (named_chain names c) ≡ named_chain names c
    unfolding chain_read
    chain_read_lacking =
        ap (chain_read_of name (named_chain names c)) (variable_lacking c.inner numbered.inner) ∙ same_chain refl (marked_lacking c.outer numbered.outer)
