-- The invoker: inside a template's body, the scope of the block of its call, by the name `invoker`.
use Rattle.std.specs.Prelude.{ℕ, Bool, true, false, ◌&&◌, not, if◌then◌else◌, List, [], ◌∷◌, Option, None, option_map, is_some, codes}
use Rattle.std.specs.Str.{bytes_eq}
use Rattle.gn_values.specs.Val.{Val}
use Rattle.gn_values.specs.Tables.{Table}
use Rattle.gn_environment.specs.Layers.{LayerState, ChainState, values_in}
use Rattle.gn_environment.specs.Chains.{variable_in, nearest, is_one_of, read_in, all_read, all_read_but, names_read, shown_or, chain_variable, chain_read}
use Rattle.gn_environment.specs.Environment.{Caller, Environment, fixed_value, kept_by}
use Rattle.gn_environment.specs.Templates.{with_caller, in_block}

abbrev pub invoker_name : List ℕ
invoker_name = codes "invoker"

abbrev pub is_called : List Caller → Bool
is_called [] = false
is_called (c ∷ cs) = true

-- whether a name is the invoker: it is so named, the body of a template runs, and no layer of it has the name
unfoldable pub names_invoker : List ℕ → Environment → Bool
names_invoker name env = bytes_eq name invoker_name && (is_called env.callers && not (is_some (chain_variable name env.chain)))

-- whether no layer stands around the innermost one
abbrev pub is_outermost : ChainState → Bool
is_outermost chain = has_none chain.outer
  where
    has_none : List LayerState → Bool
    has_none [] = true
    has_none (l ∷ ls) = false

-- whether a name is the invoker and stands in the innermost scope: that is the scope of the body itself, which begins with the invoker as a
-- name that is set and read
unfoldable pub is_invoker_here : List ℕ → Environment → Bool
is_invoker_here name env = names_invoker name env && is_outermost env.chain

-- the names that stand directly in the block of the call, with their values
abbrev pub entries_by : List Caller → Table Val
entries_by [] = []
entries_by (c ∷ cs) = values_in c.chain.inner

unfoldable pub invoker_entries : Environment → Table Val
invoker_entries env = entries_by env.callers

-- what it has directly at a name
abbrev pub entry_by : List ℕ → List Caller → Option Val
entry_by name [] = None
entry_by name (c ∷ cs) = option_map (λ v. v.value) (variable_in name c.chain.inner)

unfoldable pub invoker_entry : List ℕ → Environment → Option Val
invoker_entry name env = entry_by name env.callers

-- a read of one of its names
unfoldable pub after_invoker_entry_read : List ℕ → Environment → Environment
after_invoker_entry_read name env = record env { callers = with_caller (in_block (read_in name)) env.callers }

-- a read of all its names
unfoldable pub after_invoker_read : Environment → Environment
after_invoker_read env = record env { callers = with_caller (in_block all_read) env.callers }

-- a read of all its names but these
unfoldable pub after_invoker_read_but : List (List ℕ) → Environment → Environment
after_invoker_read_but except env = record env { callers = with_caller (in_block (all_read_but except)) env.callers }

-- a read of these of its names, but for the excepted ones
unfoldable pub after_invoker_names_read : List (List ℕ) → List (List ℕ) → Environment → Environment
after_invoker_names_read names except env = record env { callers = with_caller (in_block (names_read names except)) env.callers }

-- The invoker around the call: where the template was called in the body of another one, the invoker of that body, which is a name of its scope

-- the callers behind the innermost one
abbrev pub callers_behind : List Caller → List Caller
callers_behind [] = []
callers_behind (c ∷ cs) = cs

-- the callers behind the innermost one, changed
abbrev pub behind_first : (List Caller → List Caller) → List Caller → List Caller
behind_first change [] = []
behind_first change (c ∷ cs) = c ∷ change cs

-- whether a name that is the invoker stands around the call: the template was called in a body, and no layer there has the name
abbrev pub has_outer_invoker : List ℕ → List Caller → Bool
has_outer_invoker name [] = false
has_outer_invoker name (c ∷ cs) = is_called cs && not (is_some (chain_variable name c.chain))

-- whether it is among these names, and isn't excepted
unfoldable pub forwards_outer_invoker : List (List ℕ) → List (List ℕ) → Environment → Bool
forwards_outer_invoker names except env =
    is_one_of invoker_name names && (not (is_one_of invoker_name except) && has_outer_invoker invoker_name env.callers)

-- the names that stand directly in it, with their values
unfoldable pub outer_invoker_entries : Environment → Table Val
outer_invoker_entries env = entries_by (callers_behind env.callers)

-- a read of all its names
unfoldable pub after_outer_invoker_read : Environment → Environment
after_outer_invoker_read env = record env { callers = behind_first (with_caller (in_block all_read)) env.callers }

-- what it is worth at a name, where it is looked for and has this value
abbrev pub value_if_invoker : List ℕ → Option Val → Option Val
value_if_invoker name outer = if bytes_eq name invoker_name then outer else None

-- Names where the template was called

-- what a name is worth there: in the call's block, then outwards, then as the invoker around the call, then in what the body keeps in which the
-- call stands
abbrev pub value_by : List ℕ → Option Val → List Caller → Option Val
value_by name outer [] = None
value_by name outer (c ∷ cs) = shown_or (chain_variable name c.chain) (nearest (value_if_invoker name outer) (fixed_value name (kept_by c.body)))

unfoldable pub caller_value : List ℕ → Option Val → Environment → Option Val
caller_value name outer env = value_by name outer env.callers

-- the environment after a read of the name there
unfoldable pub after_caller_read : List ℕ → Environment → Environment
after_caller_read name env = record env { callers = with_caller (chain_read name) env.callers }
