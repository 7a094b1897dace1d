-- Callers as the code has them.
use Rattle.std.specs.Prelude.{List, [], ◌∷◌, Option, Some, None}
use Rattle.gn_environment.specs.Environment.{Caller}

-- the innermost caller, if there is one
abbrev pub innermost : List Caller → Option Caller
innermost [] = None
innermost (c ∷ cs) = Some c
