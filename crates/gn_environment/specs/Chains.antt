-- Reading through layers, outwards.
use Rattle.std.specs.Prelude.{◌≡◌, ℕ, zero, suc, IsSome, Bool, false, List, [], ◌∷◌, map, Option, Some, None, is_some, if◌then◌else◌}
use Rattle.std.specs.List.{list_any}
use Rattle.std.specs.Str.{bytes_eq}
use Rattle.gn_tree.specs.declared.position.Position.{Position}
use Rattle.gn_values.specs.Val.{Val}
use Rattle.gn_values.specs.Tables.{at_name, with_name, without_name}
use Rattle.gn_environment.specs.Layers.{VariableState, LayerState, ChainState, empty_layer}

-- what the layer has at the name
abbrev pub variable_in : List ℕ → LayerState → Option VariableState
variable_in name layer = at_name name layer.variables

-- the layer with a name set, or taken away
abbrev pub set_in : List ℕ → Option VariableState → LayerState → LayerState
set_in name (Some v) layer = record layer { variables = with_name name v layer.variables }
set_in name None layer = record layer { variables = without_name name layer.variables }

-- the first of two that there is
abbrev pub nearest : {A : Type 0} → Option A → Option A → Option A
nearest (Some a) further = Some a
nearest None further = further

-- what the first of the layers that has the name has at it
abbrev pub variable_of : List ℕ → List LayerState → Option VariableState
variable_of name [] = None
variable_of name (l ∷ ls) = nearest (variable_in name l) (variable_of name ls)

-- what a variable shows to a read: its value, unless it is declared
abbrev pub unless_declared : Option Position → Val → Option Val
unless_declared None value = Some value
unless_declared (Some position) value = None

abbrev pub shown : VariableState → Option Val
shown v = unless_declared v.declared v.value

-- what a read finds of a name that is this where a layer first has it, or else what stands beneath
abbrev pub shown_or : Option VariableState → Option Val → Option Val
shown_or (Some v) beneath = shown v
shown_or None beneath = beneath

-- what a read finds in the first of the layers that has the name, or else what stands beneath them
abbrev pub further_value : List ℕ → List LayerState → Option Val → Option Val
further_value name layers beneath = shown_or (variable_of name layers) beneath

-- whether a name is declared in the first of the layers that has it
abbrev pub is_declared_variable : Option VariableState → Bool
is_declared_variable (Some v) = is_some v.declared
is_declared_variable None = false

abbrev pub is_declared : List ℕ → List LayerState → Bool
is_declared name layers = is_declared_variable (variable_of name layers)

-- a variable that something has read
abbrev pub read_variable : VariableState → VariableState
read_variable v = record v { unread = None }

-- the layer after a read of a name at which it has this
abbrev pub read_of : List ℕ → LayerState → Option VariableState → LayerState
read_of name layer (Some v) = set_in name (Some (read_variable v)) layer
read_of name layer None = layer

-- the layer after a read of a name that it may have
abbrev pub read_in : List ℕ → LayerState → LayerState
read_in name layer = read_of name layer (variable_in name layer)

-- the layers after a read of a name at which the first has this, where the others would become those
abbrev pub read_through : List ℕ → LayerState → List LayerState → Option VariableState → List LayerState → List LayerState
read_through name l ls (Some v) further = set_in name (Some (read_variable v)) l ∷ ls
read_through name l ls None further = l ∷ further

-- a read marks the name in the first of the layers that has it
abbrev pub marked : List ℕ → List LayerState → List LayerState
marked name [] = []
marked name (l ∷ ls) = read_through name l ls (variable_in name l) (marked name ls)

-- the layer of this number is the first that has the name
abbrev pub IsFirstAt : List ℕ → List LayerState → ℕ → Type 0
IsFirstAt name [] i = ⊥
IsFirstAt name (l ∷ ls) zero = IsSome (variable_in name l)
IsFirstAt name (l ∷ ls) (suc i) = (variable_in name l ≡ None) × IsFirstAt name ls i

-- what the layers have at a name
unfoldable pub chain_variable : List ℕ → ChainState → Option VariableState
chain_variable name chain = variable_of name (chain.inner ∷ chain.outer)

-- what a read finds in the layers at a name
abbrev pub chain_value : List ℕ → ChainState → Option Val
chain_value name chain = shown_or (chain_variable name chain) None

-- the layers after a read of a name at which the innermost one has this
abbrev pub chain_read_of : List ℕ → ChainState → Option VariableState → ChainState
chain_read_of name chain (Some v) = record chain { inner = set_in name (Some (read_variable v)) chain.inner }
chain_read_of name chain None = record chain { outer = marked name chain.outer }

-- the layers after a read of the name
unfoldable pub chain_read : List ℕ → ChainState → ChainState
chain_read name chain = chain_read_of name chain (variable_in name chain.inner)

-- a scope opens
abbrev pub chain_entered : Bool → ChainState → ChainState
chain_entered checked chain = record { inner = empty_layer checked; outer = chain.inner ∷ chain.outer }

-- the innermost scope ends; behind the outermost one an empty one begins
abbrev pub chain_left : ChainState → ChainState
chain_left chain = ended chain.outer
  where
    ended : List LayerState → ChainState
    ended [] = record { inner = empty_layer false; outer = [] }
    ended (l ∷ ls) = record { inner = l; outer = ls }

-- whether a name is one of these
abbrev pub is_one_of : List ℕ → List (List ℕ) → Bool
is_one_of name names = list_any (bytes_eq name) names

-- a variable that something has read, unless it is kept from that
abbrev pub read_unless : Bool → VariableState → VariableState
read_unless kept v = if kept then v else read_variable v

-- a variable after a read of all names but these
abbrev pub read_but : List (List ℕ) → List ℕ × VariableState → List ℕ × VariableState
read_but except v = (v.0, read_unless (is_one_of v.0 except) v.1)

-- the layer after a read of all its names but these
abbrev pub all_read_but : List (List ℕ) → LayerState → LayerState
all_read_but except layer = record layer { variables = map (read_but except) layer.variables }

abbrev pub all_read : LayerState → LayerState
all_read layer = record layer { variables = map (λ (v : List ℕ × VariableState). (v.0, read_variable v.1)) layer.variables }

-- the layer after a read of these names, of those that it has, but for the excepted ones
abbrev pub names_read : List (List ℕ) → List (List ℕ) → LayerState → LayerState
names_read [] except layer = layer
names_read (n ∷ ns) except layer = names_read ns except (if is_one_of n except then layer else read_in n layer)

-- the layers after a read of all their names
abbrev pub chain_all_read : ChainState → ChainState
chain_all_read chain = record { inner = all_read chain.inner; outer = map all_read chain.outer }
