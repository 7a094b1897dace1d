-- The environment of an evaluation: the layers of its scopes, what stands beneath them, and where it takes place. Each word here is what one
-- kind of step does to it.
use Rattle.std.specs.Prelude.{ℕ, Bool, List, [], ◌∷◌, ◌++◌, Option, Some, None, Result, Ok, Err}
use Rattle.gn_tree.specs.declared.position.Position.{Position}
use Rattle.gn_tree.specs.declared.operator.AssignOp.{AssignOp}
use Rattle.gn_faults.specs.declared.file_kind.FileKind.{FileKind}
use Rattle.gn_values.specs.Val.{Val}
use Rattle.gn_values.specs.Tables.{Table, at_name}
use Rattle.gn_definitions.specs.Imported.{ScopeState, DefinitionState, MadeBy}
use Rattle.gn_environment.specs.declared.context.Context.{Context}
use Rattle.gn_environment.specs.declared.context.OpenBlock.{OpenBlock}
use Rattle.gn_environment.specs.Layers.{VariableState, ChainState, empty_layer, given_variable, values_in}
use Rattle.gn_environment.specs.Chains.{variable_in, set_in, nearest, shown_or, chain_variable, chain_read, chain_entered, chain_left}
use Rattle.gn_environment.specs.Assigning.{Refusal, assigned, ElementRefusal, element_changed}
use Rattle.gn_environment.specs.Unread.{reported}

-- where an evaluation takes place: what never changes, as what its file is evaluated, the file that its places name, the current directory, and the
-- block that is open
pub record Setting : Type 0 where
  pub context : Context
  pub kind : FileKind
  pub file : List ℕ
  pub directory : List ℕ
  pub inside : OpenBlock

-- who called the template whose body runs: the layers there, of which the innermost is the scope of the call's block, the definition whose body runs
-- in these layers, if it is one, and the file
pub record Caller : Type 0 where
  pub chain : ChainState
  pub body : Option DefinitionState
  pub file : List ℕ

pub record Environment : Type 0 where
  pub setting : Setting
  pub chain : ChainState
  -- the definition whose body runs in the layers, if it is one
  pub body : Option DefinitionState
  -- the callers of the templates whose bodies run, the innermost first
  pub callers : List Caller
  -- searched behind the layers and what the body keeps, in order
  pub beneath : List ScopeState
  -- the name of this execution, and the definitions that it has made
  pub execution : List ℕ
  pub made : List DefinitionState
  -- the definitions that other executions made
  pub definitions : MadeBy
  -- the depth of the evaluation: the sum over the template calls that are open
  pub depth : ℕ

-- an environment of one scope, in which nothing is set. What stands beneath it comes with its definitions
unfoldable pub new_environment : Setting → List ℕ → Bool → List ScopeState → MadeBy → Environment
new_environment setting execution checked beneath definitions = record {
  setting = setting;
  chain = record { inner = empty_layer checked; outer = [] };
  body = None;
  callers = [];
  beneath = beneath;
  execution = execution;
  made = [];
  definitions = definitions;
  depth = 0;
}

-- the first of the scopes that has the name
abbrev pub fixed_value : List ℕ → List ScopeState → Option Val
fixed_value name [] = None
fixed_value name (f ∷ fs) = nearest (at_name name f.variables) (fixed_value name fs)

-- what the definition keeps whose body runs
abbrev pub kept_by : Option DefinitionState → List ScopeState
kept_by None = []
kept_by (Some definition) = definition.scope ∷ []

-- what is searched behind the layers: what the body keeps, then what stands beneath it
abbrev pub behind : Environment → List ScopeState
behind env = kept_by env.body ++ env.beneath

-- what a read of the name finds: it searches the layers outwards, then what stands behind them. Where the first layer that has the name declares it, it
-- finds nothing
unfoldable pub value_of : List ℕ → Environment → Option Val
value_of name env = shown_or (chain_variable name env.chain) (fixed_value name (behind env))

-- the environment after a read of the name
unfoldable pub after_read : List ℕ → Environment → Environment
after_read name env = record env { chain = chain_read name env.chain }

-- the environment with other layers
abbrev pub with_chain : {E : Type 0} → Environment → Result ChainState E → Result Environment E
with_chain env (Ok chain) = Ok (record env { chain = chain })
with_chain env (Err e) = Err e

-- `name = value`, `name += value`, `name -= value`
unfoldable pub after_assignment : List ℕ → AssignOp → Val → Position → Environment → Result Environment Refusal
after_assignment name op value position env =
    with_chain env (assigned name op value position (fixed_value name (behind env)) env.chain)

-- the same where this is what stands behind the layers at the name
unfoldable pub after_assignment_over : Val → List ℕ → AssignOp → Val → Position → Environment → Result Environment Refusal
after_assignment_over old name op value position env = with_chain env (assigned name op value position (Some old) env.chain)

-- `name[at] = value`, `name.at = value`, and their kin
unfoldable pub after_element_assignment : List ℕ → Val → AssignOp → Val → Position → Environment → Result Environment ElementRefusal
after_element_assignment name at op value position env =
    with_chain env (element_changed name at op value position (fixed_value name (behind env)) env.chain)

-- the same where this is what stands behind the layers at the name
unfoldable pub after_element_assignment_over : Val → List ℕ → Val → AssignOp → Val → Position → Environment → Result Environment ElementRefusal
after_element_assignment_over old name at op value position env = with_chain env (element_changed name at op value position (Some old) env.chain)

-- a scope opens
unfoldable pub entered : Bool → Environment → Environment
entered checked env = record env { chain = chain_entered checked env.chain }

-- the innermost scope ends
unfoldable pub left : Environment → Environment
left env = record env { chain = chain_left env.chain }

-- the names that stand directly in the innermost scope, with their values
unfoldable pub entries_here : Environment → Table Val
entries_here env = values_in env.chain.inner

-- what the end of the innermost scope reports: the unread name whose last assignment stands first
unfoldable pub reported_here : Environment → Option (List ℕ × Position)
reported_here env = reported env.chain.inner

-- what the innermost scope has at a name
unfoldable pub variable_here : List ℕ → Environment → Option VariableState
variable_here name env = variable_in name env.chain.inner

-- the innermost scope with a name as it was
unfoldable pub restored : List ℕ → Option VariableState → Environment → Environment
restored name variable env = record env { chain = record env.chain { inner = set_in name variable env.chain.inner } }

-- a name gets a value without an assignment, and counts as read
unfoldable pub given : List ℕ → Val → Environment → Environment
given name value env = restored name (Some (given_variable value)) env

-- a block opens, or one ends and this one stands around it
abbrev pub with_open : OpenBlock → Environment → Environment
with_open block env = record env { setting = record env.setting { inside = block } }
