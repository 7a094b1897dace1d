-- Names that are given values all at once.
use Rattle.std.specs.Prelude.{ℕ, not, List, [], ◌∷◌, filter, Option, Some, None}
use Rattle.gn_values.specs.Val.{Val}
use Rattle.gn_values.specs.Tables.{Table, with_name}
use Rattle.gn_environment.specs.Layers.{VariableState, LayerState, given_variable}
use Rattle.gn_environment.specs.Chains.{is_one_of, chain_read, all_read}
use Rattle.gn_environment.specs.Environment.{Caller}
use Rattle.gn_environment.specs.Templates.{with_caller, in_block}
use Rattle.gn_environment.specs.Invoker.{entries_by}
use Rattle.gn_environment.specs.Forwarding.{Origin, from_entries, from_invoker}

-- variables, after these names are given values in order; they count as read
abbrev pub variables_given : Table Val → Table VariableState → Table VariableState
variables_given [] variables = variables
variables_given (e ∷ es) variables = variables_given es (with_name e.0 (given_variable e.1) variables)

-- the layer after these names are given values in order
abbrev pub all_given : Table Val → LayerState → LayerState
all_given entries layer = record layer { variables = variables_given entries layer.variables }

-- the entries but the excepted ones
abbrev pub entries_but : List (List ℕ) → Table Val → Table Val
entries_but except entries = filter (λ (e : List ℕ × Val). not (is_one_of e.0 except)) entries

-- a name with its value, before those of others
abbrev pub found_before : List ℕ → Option Val → Table Val → Table Val
found_before name None entries = entries
found_before name (Some v) entries = (name, v) ∷ entries

-- the names that have a value, with their values
abbrev pub entries_at : (List ℕ → Option Val) → List (List ℕ) → Table Val
entries_at value [] = []
entries_at value (n ∷ ns) = found_before n (value n) (entries_at value ns)

-- what stands directly there from where names are forwarded
abbrev pub origin_entries : Origin → List Caller → Table Val
origin_entries (from_entries entries) callers = entries
origin_entries (from_invoker outer) callers = entries_by callers

-- callers after a read of each of these names where the innermost one called
abbrev pub read_at : List (List ℕ) → List Caller → List Caller
read_at [] callers = callers
read_at (n ∷ ns) callers = read_at ns (with_caller (chain_read n) callers)

-- callers after a read of each of these names there from where they are forwarded; a scope that is a value has no unread names
abbrev pub read_at_origin : Origin → List (List ℕ) → List Caller → List Caller
read_at_origin (from_entries entries) names callers = callers
read_at_origin (from_invoker outer) names callers = read_at names callers

-- callers after a read of all that stands directly there
abbrev pub read_all_at : Origin → List Caller → List Caller
read_all_at (from_entries entries) callers = callers
read_all_at (from_invoker outer) callers = with_caller (in_block all_read) callers
