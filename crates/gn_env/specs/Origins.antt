-- From where variables are forwarded, and why they aren't, as the code has it.
use Rattle.std.specs.Prelude.{ℕ, List, Option, Some, None}
pub use Rattle.gn_callers.specs.Origins.{origin_of}
use Rattle.gn_env.specs.declared.forwarding.ForwardError.{ForwardError}
use Rattle.gn_env.specs.declared.forwarding.ForwardError.TheVariants.{AlreadySet, Memory}

-- the name that is already set; want of memory names none
abbrev pub name_set : ForwardError → Option (List ℕ)
name_set (AlreadySet name) = Some name
name_set Memory = None
