-- `declare_args`: the end of its block.
use Rattle.std.specs.Prelude.{ℕ, List, [], ◌∷◌, map, Option, None, Result, Ok, Err}
use Rattle.gn_tree.specs.declared.position.Position.{Position}
use Rattle.gn_values.specs.Val.{Val}
use Rattle.gn_faults.specs.declared.code.Code.TheVariants as code
use Rattle.gn_items.specs.declared.declaration.Declaration.{Declaration}
use Rattle.gn_items.specs.Effects.{with_declarations}
use Rattle.gn_environment.specs.Environment.{Setting, Environment}
use Rattle.gn_environment.specs.Declaring.{ArgumentState, arguments_here, arguments_declared}
use Rattle.gn_meaning.specs.Steps.{Steps, ends}
use Rattle.gn_meaning.specs.Words.{fails_at}

-- an argument of the block as what the execution declares
abbrev pub declaration_of : Setting → ArgumentState → Declaration
declaration_of setting a = record { name = a.name; place = record { file = setting.file; line = a.position.line; column = a.position.column } }

-- the arguments are set around the block, or the first that is set there already is a fault of the call
abbrev pub arguments_taken : Result Environment (List ℕ) → List ArgumentState → Position → Steps (Option Val)
arguments_taken (Ok after) arguments position env out = ends None after (with_declarations (map (declaration_of env.setting) arguments) out)
arguments_taken (Err name) arguments position env out = fails_at code.AlreadySet position (name ∷ []) env out

-- `declare_args`: its block has run in a scope of its own, which ends
unfoldable pub arguments_end_runs : Position → Steps (Option Val)
arguments_end_runs position env out = arguments_taken (arguments_declared position env) (arguments_here position env) position env out
