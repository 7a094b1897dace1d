-- At which name giving the defaults of a kind of call is refused.
use Rattle.std.specs.Prelude.{ℕ, List, Option, Some, None}
use Rattle.gn_env.specs.declared.templates.GiveError.{GiveError}
use Rattle.gn_env.specs.declared.templates.GiveError.TheVariants.{AlreadySet, Memory}

-- the name that a refused giving finds set; want of memory finds none
abbrev pub already_set : GiveError → Option (List ℕ)
already_set (AlreadySet name) = Some name
already_set Memory = None
