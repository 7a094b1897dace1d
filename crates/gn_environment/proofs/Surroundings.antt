-- What each step leaves around the scope in which it takes place: scopes, reads, assignments, bodies of templates.
use Rattle.std.proofs.Common.{◌≡◌, ℕ, Bool, true, false, if◌then◌else◌, List, [], ◌∷◌, map, Option, Some, None, Result, Ok, Err, IfOk, is_some, refl, sym, ap, ◌∙◌}
use Rattle.gn_tree.specs.declared.position.Position.{Position}
use Rattle.gn_tree.specs.Tree.{BlockTree}
use Rattle.gn_tree.specs.declared.operator.AssignOp.{AssignOp}
use Rattle.gn_tree.specs.declared.operator.AssignOp.TheVariants.{Set, Add, Subtract}
use Rattle.gn_values.specs.Val.{Val}
use Rattle.gn_values.specs.Tables.{Table}
use Rattle.gn_values.specs.Assigning.{combined, element_assigned}
use Rattle.gn_definitions.specs.Imported.{DefinitionState}
use Rattle.gn_environment.specs.Layers.{VariableState, LayerState, ChainState, empty_layer}
use Rattle.gn_environment.specs.Chains.{variable_in, read_of, read_in, read_through, marked, further_value, chain_read, chain_read_of, chain_left, all_read}
use Rattle.gn_environment.specs.Assigning.{Refusal, has_no_value, operator_refuses, put, with_inner, overwritten, overwritten_over, replaces, put_result, changed_at, copied_inwards, assigned, base_has_no_value, element_refuses, element_changed}
use Rattle.gn_environment.specs.Environment.{Caller, Environment, fixed_value, behind, after_read, with_chain, after_assignment, after_assignment_over, after_element_assignment, after_element_assignment_over, entered, left, restored, given, variable_here}
use Rattle.gn_environment.specs.Templates.{with_caller, in_block, template_defined, defaults_set, defaults_of, table_given, table_given_if, defaults_given, at_depth, block_begins, body_begins, back_in, body_ends}
use Rattle.gn_environment.specs.Declaring.{declaring_entered}
use Rattle.gn_environment.specs.Surroundings.{outline, emptied, around_inner, caller_outline, surroundings}

-- the layers of a caller but for their variables
abbrev pub chain_outline : ChainState → ChainState
chain_outline chain = record { inner = outline chain.inner; outer = map outline chain.outer }

-- Reads

module _ (name : List ℕ) where
  read_outline : (l : LayerState) (o : Option VariableState) → outline (read_of name l o) ≡ outline l
  read_outline l (Some v) = refl
  read_outline l None = refl

  pub read_in_outline : (l : LayerState) → outline (read_in name l) ≡ outline l
  read_in_outline l = read_outline l (variable_in name l)

  through_outline : (l : LayerState) (ls further : List LayerState) (o : Option VariableState) → map outline further ≡ map outline ls → map outline (read_through name l ls o further) ≡ map outline (l ∷ ls)
  through_outline l ls further (Some v) h = refl
  through_outline l ls further None h = ap (λ (ms : List LayerState). outline l ∷ ms) h

  marked_outline : (ls : List LayerState) → map outline (marked name ls) ≡ map outline ls
  marked_outline [] = refl
  marked_outline (l ∷ ls) = through_outline l ls (marked name ls) (variable_in name l) (marked_outline ls)

  read_of_outline : (chain : ChainState) (o : Option VariableState) → chain_outline (chain_read_of name chain o) ≡ chain_outline chain
  read_of_outline chain (Some v) = refl
  read_of_outline chain None = ap (λ (ls : List LayerState). record { inner = outline chain.inner; outer = ls }) (marked_outline chain.outer)

  pub chain_read_outline : (chain : ChainState) → chain_outline (chain_read name chain) ≡ chain_outline chain
  unfolding chain_read
  chain_read_outline chain = read_of_outline chain (variable_in name chain.inner)

  pub marked_around : (layer : LayerState) (chain : ChainState) → emptied layer ≡ emptied chain.inner → around_inner (record { inner = layer; outer = marked name chain.outer }) ≡ around_inner chain
  marked_around layer chain h = λ i. record { inner = h i; outer = marked_outline chain.outer i }

-- layers of one outline have the same around the innermost one
pub outline_around : (c d : ChainState) → chain_outline c ≡ chain_outline d → around_inner c ≡ around_inner d
outline_around c d h = ap (λ (x : ChainState). record { inner = emptied x.inner; outer = x.outer }) h

-- an environment with these layers
pub with_layers : (chain : ChainState) (env : Environment) → around_inner chain ≡ around_inner env.chain → surroundings (record env { chain = chain }) ≡ surroundings env
unfolding surroundings
with_layers chain env h = ap (λ (c : ChainState). record (surroundings env) { chain = c }) h

pub read_keeps : (name : List ℕ) (env : Environment) → surroundings (after_read name env) ≡ surroundings env
unfolding after_read
read_keeps name env = with_layers (chain_read name env.chain) env (outline_around (chain_read name env.chain) env.chain (chain_read_outline name env.chain))

-- Assignments

-- a layer of the kind of this one
abbrev IsAsEmptied : LayerState → {R : Type 0} → Result LayerState R → Type 0
IsAsEmptied layer r = IfOk r (λ l. emptied l ≡ emptied layer)

abbrev IsAround : ChainState → {R : Type 0} → Result ChainState R → Type 0
IsAround chain r = IfOk r (λ c. around_inner c ≡ around_inner chain)

abbrev pub IsKept : Environment → {R : Type 0} → Result Environment R → Type 0
IsKept env r = IfOk r (λ after. surroundings after ≡ surroundings env)

inner_around : {R : Type 0} (chain : ChainState) (r : Result LayerState R) → IsAsEmptied chain.inner r → IsAround chain (with_inner chain r)
inner_around chain (Ok layer) h = ap (λ (l : LayerState). record { inner = l; outer = map outline chain.outer }) h
inner_around chain (Err e) h = tt

marked_inner : {R : Type 0} (name : List ℕ) (chain : ChainState) (r : Result LayerState R) → IsAsEmptied chain.inner r → IsAround chain (with_inner (record chain { outer = marked name chain.outer }) r)
marked_inner name chain (Ok layer) h = marked_around name layer chain h
marked_inner name chain (Err e) h = tt

overwritten_checked : (name : List ℕ) (value : Val) (position : Position) (layer : LayerState) (o : Option VariableState) → IsAsEmptied layer (overwritten_over name value position layer o)
overwritten_checked name value position layer None = refl
overwritten_checked name value position layer (Some old) =
    elim (replaces old.value value) as (λ b. IsAsEmptied layer (if b then Err Refusal.replaces_nonempty else Ok (put name value position layer))) [ true ↦ tt | false ↦ refl ]

module _ {E R : Type 0} (absent : R) (refuses : E → R) (step : Val → Result Val E) (name : List ℕ) (position : Position) where
  put_checked : (layer : LayerState) (r : Result Val E) → IsAsEmptied layer (put_result absent refuses step name position layer r)
  put_checked layer (Ok value) = refl
  put_checked layer (Err e) = tt

  copied_around : (chain : ChainState) (o : Option Val) → IsAround chain (copied_inwards absent refuses step name position chain o)
  copied_around chain (Some old) =
      marked_inner name chain (put_result absent refuses step name position chain.inner (step old)) (put_checked chain.inner (step old))
  copied_around chain None = tt

  changed_around : (beneath : Option Val) (chain : ChainState) (o : Option VariableState) → IsAround chain (changed_at absent refuses step name position beneath chain o)
  changed_around beneath chain (Some old) =
      inner_around chain (put_result absent refuses step name position chain.inner (step old.value)) (put_checked chain.inner (step old.value))
  changed_around beneath chain None = copied_around chain (further_value name chain.outer beneath)

assigned_around : (name : List ℕ) (op : AssignOp) (value : Val) (position : Position) (beneath : Option Val) (chain : ChainState) → IsAround chain (assigned name op value position beneath chain)
unfolding assigned
assigned_around name Set value position beneath chain =
    inner_around chain (overwritten name value position chain.inner) (overwritten_checked name value position chain.inner (variable_in name chain.inner))
assigned_around name Add value position beneath chain =
    changed_around has_no_value operator_refuses (λ old. combined Add old value) name position beneath chain (variable_in name chain.inner)
assigned_around name Subtract value position beneath chain =
    changed_around has_no_value operator_refuses (λ old. combined Subtract old value) name position beneath chain (variable_in name chain.inner)

element_around : (name : List ℕ) (at : Val) (op : AssignOp) (value : Val) (position : Position) (beneath : Option Val) (chain : ChainState) → IsAround chain (element_changed name at op value position beneath chain)
unfolding element_changed
element_around name at op value position beneath chain =
    changed_around base_has_no_value element_refuses (λ old. element_assigned old at op value) name position beneath chain (variable_in name chain.inner)

chain_keeps : {R : Type 0} (env : Environment) (r : Result ChainState R) → IsAround env.chain r → IsKept env (with_chain env r)
chain_keeps env (Ok chain) h = with_layers chain env h
chain_keeps env (Err e) h = tt

pub assignment_keeps : (name : List ℕ) (op : AssignOp) (value : Val) (position : Position) (env : Environment) → IsKept env (after_assignment name op value position env)
unfolding after_assignment
assignment_keeps name op value position env =
    chain_keeps env (assigned name op value position (fixed_value name (behind env)) env.chain) (assigned_around name op value position (fixed_value name (behind env)) env.chain)

pub assignment_over_keeps : (old : Val) (name : List ℕ) (op : AssignOp) (value : Val) (position : Position) (env : Environment) → IsKept env (after_assignment_over old name op value position env)
unfolding after_assignment_over
assignment_over_keeps old name op value position env =
    chain_keeps env (assigned name op value position (Some old) env.chain) (assigned_around name op value position (Some old) env.chain)

pub element_keeps : (name : List ℕ) (at : Val) (op : AssignOp) (value : Val) (position : Position) (env : Environment) → IsKept env (after_element_assignment name at op value position env)
unfolding after_element_assignment
element_keeps name at op value position env =
    chain_keeps env (element_changed name at op value position (fixed_value name (behind env)) env.chain) (element_around name at op value position (fixed_value name (behind env)) env.chain)

pub element_over_keeps : (old : Val) (name : List ℕ) (at : Val) (op : AssignOp) (value : Val) (position : Position) (env : Environment) → IsKept env (after_element_assignment_over old name at op value position env)
unfolding after_element_assignment_over
element_over_keeps old name at op value position env =
    chain_keeps env (element_changed name at op value position (Some old) env.chain) (element_around name at op value position (Some old) env.chain)

-- Scopes

abbrev back_out : ChainState → ChainState
back_out chain = out_of chain.outer
  where
    out_of : List LayerState → ChainState
    out_of [] = record { inner = empty_layer false; outer = [] }
    out_of (l ∷ ls) = record { inner = emptied l; outer = ls }

left_around : (inner : LayerState) (outer : List LayerState) → around_inner (chain_left (record { inner = inner; outer = outer })) ≡ back_out (record { inner = inner; outer = map outline outer })
left_around inner [] = refl
left_around inner (l ∷ ls) = refl

-- what stood around a scope stands there again when it ends
pub left_keeps : (checked : Bool) (env env1 : Environment) → surroundings env1 ≡ surroundings (entered checked env) → surroundings (left env1) ≡ surroundings env
unfolding surroundings entered left
left_keeps checked env env1 h =
    ap (λ (c : ChainState). record (surroundings env1) { chain = c }) (left_around env1.chain.inner env1.chain.outer)
    ∙ ap (λ (s : Environment). record s { chain = back_out s.chain }) h

-- the same of the scope of a block that declares arguments
pub declaring_left_keeps : (env env1 : Environment) → surroundings env1 ≡ surroundings (declaring_entered env) → surroundings (left env1) ≡ surroundings env
unfolding surroundings declaring_entered left
declaring_left_keeps env env1 h =
    ap (λ (c : ChainState). record (surroundings env1) { chain = c }) (left_around env1.chain.inner env1.chain.outer)
    ∙ ap (λ (s : Environment). record s { chain = back_out s.chain }) h

pub restored_keeps : (name : List ℕ) (o : Option VariableState) (env : Environment) → surroundings (restored name o env) ≡ surroundings env
unfolding surroundings restored
restored_keeps name (Some v) env = refl
restored_keeps name None env = refl

pub given_keeps : (name : List ℕ) (value : Val) (env : Environment) → surroundings (given name value env) ≡ surroundings env
unfolding surroundings restored given
given_keeps name value env = refl

table_keeps : (values : Table Val) (env env1 : Environment) → surroundings env1 ≡ surroundings env → IsKept env (table_given values env1)
table_keeps [] env env1 h = h
table_keeps (e ∷ es) env env1 h =
    elim (is_some (variable_here e.0 env1)) as (λ b. IsKept env (if b then Err e.0 else table_given es (given e.0 e.1 env1))) [ true ↦ tt | false ↦ table_keeps es env (given e.0 e.1 env1) (given_keeps e.0 e.1 env1 ∙ h) ]

table_if_keeps : (values : Option (Table Val)) (env : Environment) → IsKept env (table_given_if values env)
table_if_keeps None env = refl
table_if_keeps (Some values) env = table_keeps values env env refl

pub defaults_given_keep : (kind : List ℕ) (env : Environment) → IsKept env (defaults_given kind env)
unfolding defaults_given
defaults_given_keep kind env = table_if_keeps (defaults_of kind env) env

pub block_begins_so : (name : List ℕ) (env : Environment) → surroundings (block_begins name env) ≡ surroundings (entered true env)
unfolding block_begins
block_begins_so name env = given_keeps _ _ (entered true env)

pub defaults_set_keep : (kind : List ℕ) (env : Environment) → surroundings (defaults_set kind env) ≡ surroundings (left env)
unfolding surroundings defaults_set left
defaults_set_keep kind env = refl

-- Callers

pub callers_keep : (change : ChainState → ChainState) → ((c : ChainState) → chain_outline (change c) ≡ chain_outline c) → (cs : List Caller) → map caller_outline (with_caller change cs) ≡ map caller_outline cs
callers_keep change h [] = refl
callers_keep change h (c ∷ cs) = ap (λ (x : ChainState). record (caller_outline c) { chain = x } ∷ map caller_outline cs) (h c.chain)

pub with_callers : (cs : List Caller) (env : Environment) → map caller_outline cs ≡ map caller_outline env.callers → surroundings (record env { callers = cs }) ≡ surroundings env
unfolding surroundings
with_callers cs env h = ap (λ (xs : List Caller). record (surroundings env) { callers = xs }) h

pub block_outline : (change : LayerState → LayerState) → ((l : LayerState) → outline (change l) ≡ outline l) → (c : ChainState) → chain_outline (in_block change c) ≡ chain_outline c
block_outline change h c = ap (λ (l : LayerState). record { inner = l; outer = map outline c.outer }) (h c.inner)

all_read_outline : (ls : List LayerState) → map outline (map all_read ls) ≡ map outline ls
all_read_outline [] = refl
all_read_outline (l ∷ ls) = ap (λ (ms : List LayerState). outline l ∷ ms) (all_read_outline ls)

pub template_defined_keeps : (name : List ℕ) (position : Position) (nesting : ℕ) (block : BlockTree) (env : Environment) → surroundings (template_defined name position nesting block env) ≡ surroundings env
unfolding surroundings template_defined
template_defined_keeps name position nesting block env = λ i.
    record (surroundings env) { chain = record (around_inner env.chain) { outer = all_read_outline env.chain.outer i }; callers = callers_keep (in_block all_read) (block_outline all_read (λ l. refl)) env.callers i }

-- Bodies

pub at_depth_keeps : (depth : ℕ) (env env1 : Environment) → surroundings env1 ≡ surroundings env → surroundings (at_depth depth env1) ≡ surroundings (at_depth depth env)
unfolding surroundings at_depth
at_depth_keeps depth env env1 h = ap (λ (s : Environment). record s { depth = depth }) h

pub same_depth : (env : Environment) → surroundings (at_depth env.depth env) ≡ surroundings env
unfolding at_depth
same_depth env = refl

abbrev back_from : List Caller → Environment → Environment
back_from [] s = s
back_from (c ∷ cs) s = record s { setting = record s.setting { file = c.file }; chain = back_out c.chain; body = c.body; callers = cs }

back_in_so : (cs : List Caller) (env : Environment) → env.callers ≡ cs → surroundings (back_in cs env) ≡ back_from (map caller_outline cs) (surroundings env)
unfolding surroundings
back_in_so [] env h = refl
back_in_so (c ∷ cs) env h =
    ap (λ (x : ChainState). record { setting = record env.setting { file = c.file }; chain = x; body = c.body; callers = map caller_outline cs; beneath = env.beneath; execution = env.execution; made = []; definitions = []; depth = env.depth }) (left_around c.chain.inner c.chain.outer)

-- what stood around the block of a call stands there again when the body of its template ends
pub body_ends_keep : (definition : DefinitionState) (name : List ℕ) (env env1 : Environment) → surroundings env1 ≡ surroundings (body_begins definition name env) → surroundings (body_ends env1) ≡ surroundings (left env)
unfolding surroundings body_begins body_ends given restored left
body_ends_keep definition name env env1 h =
    back_in_so env1.callers env1 refl ∙ ap (λ (s : Environment). back_from s.callers s) h
    ∙ ap (λ (c : ChainState). record (surroundings env) { chain = c }) (sym (left_around env.chain.inner env.chain.outer))

-- the depth put back is the depth before, whatever it was made
pub depth_again : (depth : ℕ) (env : Environment) → surroundings (at_depth env.depth (at_depth depth env)) ≡ surroundings env
unfolding at_depth
depth_again depth env = refl
