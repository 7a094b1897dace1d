-- `forward_variables_from` and `not_needed`.
use Rattle.std.specs.Prelude.{ℕ, Bool, ◌&&◌, ◌||◌, not, if◌then◌else◌, List, [], ◌∷◌, filter, Option, Some, None, is_some, Result, Ok, Err, codes}
use Rattle.std.specs.List.{find}
use Rattle.gn_values.specs.Val.{Val}
use Rattle.gn_values.specs.Tables.{Table, at_name}
use Rattle.gn_environment.specs.Chains.{is_one_of, variable_in, names_read, all_read_but}
use Rattle.gn_environment.specs.Environment.{Environment, given}
use Rattle.gn_environment.specs.Templates.{in_block}
use Rattle.gn_environment.specs.Invoker.{is_invoker_here, invoker_entries, caller_value, after_caller_read, after_invoker_read}

-- from where variables are forwarded: the entries of a scope, or the invoker, where the invoker around the call has this value, if it is looked for
pub data Origin : Type 0 where
  from_entries : Table Val → Origin
  from_invoker : Option Val → Origin

-- what it has at a name: for the invoker also what stands around the block of the call
abbrev pub origin_value : Origin → Environment → List ℕ → Option Val
origin_value (from_entries entries) env name = at_name name entries
origin_value (from_invoker outer) env name = caller_value name outer env

-- a read of a name there; a scope that is a value has no unread names
abbrev pub origin_read : Origin → List ℕ → Environment → Environment
origin_read (from_entries entries) name env = env
origin_read (from_invoker outer) name env = after_caller_read name env

-- the listed names that are there, but for the excepted ones
abbrev pub forwarded_names : Origin → List (List ℕ) → List (List ℕ) → Environment → List (List ℕ)
forwarded_names origin names except env = filter (λ name. not (is_one_of name except) && is_some (origin_value origin env name)) names

-- a name is given its value, where there is one
abbrev pub given_if : List ℕ → Option Val → Environment → Environment
given_if name None env = env
given_if name (Some v) env = given name v env

-- each name is read there, and given its value here
abbrev pub names_given : (List ℕ → Option Val) → Origin → List (List ℕ) → Environment → Environment
names_given value origin [] env = env
names_given value origin (n ∷ ns) env = names_given value origin ns (given_if n (value n) (origin_read origin n env))

-- whether the innermost scope has a name; that of a body has the invoker
abbrev pub is_set_here : Environment → List ℕ → Bool
is_set_here env name = is_some (variable_in name env.chain.inner) || is_invoker_here name env

abbrev pub forwarded_unless : Option (List ℕ) → Environment → Result Environment (List ℕ)
forwarded_unless (Some name) env = Err name
forwarded_unless None env = Ok env

-- with a list of names: refused at the first of them that the innermost scope already has
unfoldable pub names_forwarded : Origin → List (List ℕ) → List (List ℕ) → Environment → Result Environment (List ℕ)
names_forwarded origin names except env =
    forwarded_unless (find (is_set_here env) (forwarded_names origin names except env))
    (names_given (origin_value origin env) origin (forwarded_names origin names except env) env)

-- each entry but the excepted ones is given here, whatever stood here
abbrev pub entries_given : List (List ℕ) → Table Val → Environment → Environment
entries_given except [] env = env
entries_given except (e ∷ es) env = entries_given except es (if is_one_of e.0 except then env else given e.0 e.1 env)

abbrev pub target_name : List ℕ
target_name = codes "target_name"

-- with `"*"`: all that stands directly there but `target_name`; all names there count as read, the excepted ones too
unfoldable pub all_forwarded : Origin → List (List ℕ) → Environment → Environment
all_forwarded (from_entries entries) except env = entries_given (target_name ∷ except) entries env
all_forwarded (from_invoker outer) except env = entries_given (target_name ∷ except) (invoker_entries env) (after_invoker_read env)

-- `not_needed` with a list of names, and with `"*"`: those of the innermost scope count as read
unfoldable pub after_names_read_here : List (List ℕ) → List (List ℕ) → Environment → Environment
after_names_read_here names except env = record env { chain = in_block (names_read names except) env.chain }

unfoldable pub after_all_read_here : List (List ℕ) → Environment → Environment
after_all_read_here except env = record env { chain = in_block (all_read_but except) env.chain }
