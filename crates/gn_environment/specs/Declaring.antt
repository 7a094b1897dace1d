-- Blocks that declare arguments: the names that are assigned in one, or given by a call, are there for its end, and no read finds them.
use Rattle.std.specs.Prelude.{◌≡◌, ℕ, false, List, [], ◌∷◌, map, Option, Some, None, Result, Ok, Err, if◌then◌else◌}
use Rattle.std.specs.List.{AllByRecursion}
use Rattle.std.specs.Option.{unwrap_or}
use Rattle.gn_tree.specs.declared.position.Position.{Position}
use Rattle.gn_values.specs.Val.{Val}
use Rattle.gn_values.specs.Tables.{Table, at_name}
use Rattle.gn_environment.specs.Layers.{VariableState, LayerState, ChainState, declaring_layer}
use Rattle.gn_environment.specs.Chains.{variable_in, set_in}
use Rattle.gn_environment.specs.Environment.{Environment, variable_here, entries_here, left, given}
use Rattle.gn_environment.specs.Templates.{in_block}
use Rattle.gn_definitions.specs.Imported.{ImportState}
use Rattle.gn_environment.specs.Forwarding.{Origin, target_name, is_set_here, forwarded_names, names_forwarded, all_forwarded}
use Rattle.gn_environment.specs.Giving.{entries_but, origin_entries}
use Rattle.gn_environment.specs.Imports.{merged}

-- the scope of a block that declares arguments opens
abbrev pub chain_declaring : ChainState → ChainState
chain_declaring chain = record { inner = declaring_layer; outer = chain.inner ∷ chain.outer }

unfoldable pub declaring_entered : Environment → Environment
declaring_entered env = record env { chain = chain_declaring env.chain }

-- the first of two places, if there is one
abbrev pub declared_first : Option Position → Position → Position
declared_first None position = position
declared_first (Some first) position = first

-- a variable that is declared, here unless it was before
abbrev pub declared_at : Position → VariableState → VariableState
declared_at position v = record v { declared = Some (declared_first v.declared position) }

-- the layer after a name is declared at which it has this
abbrev pub declared_of : List ℕ → Position → LayerState → Option VariableState → LayerState
declared_of name position layer (Some v) = set_in name (Some (declared_at position v)) layer
declared_of name position layer None = layer

-- the layer after a call at this position has given it the name, which it declares if it declares names
abbrev pub declared_in : List ℕ → Position → LayerState → LayerState
declared_in name position layer = if layer.declares then declared_of name position layer (variable_in name layer) else layer

-- the environment after a call at this position has given the name to the innermost scope
unfoldable pub name_declared : List ℕ → Position → Environment → Environment
name_declared name position env = record env { chain = in_block (declared_in name position) env.chain }

-- a layer that declares no names, and none of whose names is declared
pub record DeclaresNothing (layer : LayerState) : Type 0 where
  pub declares : layer.declares ≡ false
  pub variables : AllByRecursion (λ (v : List ℕ × VariableState). v.1.declared ≡ None) layer.variables

-- where a name of the innermost scope was declared, if it is
abbrev pub place_of : Option VariableState → Option Position
place_of (Some v) = v.declared
place_of None = None

unfoldable pub declared_here : List ℕ → Environment → Option Position
declared_here name env = place_of (variable_here name env)

-- Calls that bring names into such a scope: imports and forwarding

-- where each of the names is declared then, if the scope declares names: where it was before, or else by the call at this position
abbrev pub place_brought : Position → Environment → List ℕ → List ℕ × Position
place_brought position env name = (name, declared_first (declared_here name env) position)

abbrev pub places_brought : Position → Environment → List (List ℕ) → List (List ℕ × Position)
places_brought position env names = if env.chain.inner.declares then map (place_brought position env) names else []

-- names of the innermost scope are declared at these places
abbrev pub brought : List (List ℕ × Position) → Environment → Environment
brought [] env = env
brought (p ∷ ps) env = brought ps (name_declared p.0 p.1 env)

-- the same where the call that brings them isn't refused
abbrev pub brought_if : List (List ℕ × Position) → Result Environment (List ℕ) → Result Environment (List ℕ)
brought_if places (Ok after) = Ok (brought places after)
brought_if places (Err name) = Err name

-- an import's variables
unfoldable pub import_brought : Position → ImportState → Environment → Result Environment (List ℕ)
import_brought position value env = brought_if (places_brought position env (map (λ (v : List ℕ × Val). v.0) value.scope.variables)) (merged value env)

-- the names of a list that are forwarded
unfoldable pub names_brought : Position → Origin → List (List ℕ) → List (List ℕ) → Environment → Result Environment (List ℕ)
names_brought position origin names except env =
    brought_if (places_brought position env (forwarded_names origin names except env)) (names_forwarded origin names except env)

-- all names that are forwarded by `"*"`
abbrev pub names_of_all : Origin → List (List ℕ) → Environment → List (List ℕ)
names_of_all origin except env = map (λ (e : List ℕ × Val). e.0) (entries_but (target_name ∷ except) (origin_entries origin env.callers))

unfoldable pub all_brought : Position → Origin → List (List ℕ) → Environment → Environment
all_brought position origin except env = brought (places_brought position env (names_of_all origin except env)) (all_forwarded origin except env)

-- The end of such a block

-- an argument that a block declares: its name, where it is declared, and its default
pub record ArgumentState : Type 0 where
  pub name : List ℕ
  pub position : Position
  pub default : Val

-- a name of the block with its value is an argument. A name that nothing in the block declares is declared by the call of the block, at this position
abbrev pub argument_of : Position → Environment → List ℕ × Val → ArgumentState
argument_of position env e = record { name = e.0; position = declared_first (declared_here e.0 env) position; default = e.1 }

-- the arguments of the block whose scope is the innermost one, in the order of their names
unfoldable pub arguments_here : Position → Environment → List ArgumentState
arguments_here position env = map (argument_of position env) (entries_here env)

-- the value that an argument takes: what its name is given under the toolchain, else its default
abbrev pub taken : Table Val → List ℕ → Val → Val
taken overrides name default = unwrap_or (at_name name overrides) default

-- a name is set in the innermost scope, where it counts as read; if that scope declares names too, it is declared there again, at the same place
abbrev pub argument_given : Table Val → ArgumentState → Environment → Environment
argument_given overrides a env = name_declared a.name a.position (given a.name (taken overrides a.name a.default) env)

-- arguments are set in the innermost scope, one after the other; refused at the first that is set there
abbrev pub arguments_set : Table Val → List ArgumentState → Environment → Result Environment (List ℕ)
arguments_set overrides [] env = Ok env
arguments_set overrides (a ∷ rest) env =
    if is_set_here env a.name then Err a.name else arguments_set overrides rest (argument_given overrides a env)

-- the block ends whose call stands at this position: its scope ends, and each of its arguments takes its value in the scope around it
unfoldable pub arguments_declared : Position → Environment → Result Environment (List ℕ)
arguments_declared position env = arguments_set env.setting.context.overrides (arguments_here position env) (left env)
