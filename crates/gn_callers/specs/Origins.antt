-- From where variables are forwarded, as the code has it, and what a name has there.
use Rattle.std.specs.Prelude.{ℕ, ◌&&◌, not, List, filter, Option, is_some, option_map}
use Rattle.gn_values.specs.Val.{Val}
use Rattle.gn_values.specs.Tables.{at_name}
use Rattle.gn_values.specs.View.{val_of}
use Rattle.gn_environment.specs.Chains.{is_one_of}
use Rattle.gn_environment.specs.Environment.{Caller}
use Rattle.gn_environment.specs.Forwarding.{Origin, from_entries, from_invoker}
use Rattle.gn_environment.specs.Invoker.{value_by}
use Rattle.gn_callers.specs.declared.origin.Origin.{Origin as From}
use Rattle.gn_callers.specs.declared.origin.Origin.TheVariants.{Entries, Invoker}

abbrev pub origin_of : From → Origin
origin_of (Entries entries) = from_entries entries.now
origin_of (Invoker outer) = from_invoker (option_map (λ v. val_of v.now) outer)

-- what it has at a name, where these are the callers: for the invoker also what stands around the block of the call
abbrev pub value_from : Origin → List Caller → List ℕ → Option Val
value_from (from_entries entries) callers name = at_name name entries
value_from (from_invoker outer) callers name = value_by name outer callers

-- the listed names that have a value, but for the excepted ones
abbrev pub names_there : (List ℕ → Option Val) → List (List ℕ) → List (List ℕ) → List (List ℕ)
names_there value names except = filter (λ name. not (is_one_of name except) && is_some (value name)) names
