-- Where the arguments of a call stand.
use Rattle.std.specs.Prelude.{ℕ, zero, suc, [], ◌∷◌}
use Rattle.gn_tree.specs.declared.position.Position.{Position}
use Rattle.gn_tree.specs.declared.tree.Call.{Call}
use Rattle.gn_tree.specs.Tree.{ExprTrees, no_exprs, expr_then}
use Rattle.gn_tree.specs.FirstPosition.{first_position}
use Rattle.gn_faults.specs.declared.code.Code.TheVariants as code
use Rattle.gn_meaning.specs.Steps.{Steps}
use Rattle.gn_meaning.specs.Words.{fails_at}

-- where the argument of this number stands, counted from 0; the last position is that of an argument that isn't there
abbrev pub argument_position : ExprTrees → ℕ → Position → Position
argument_position no_exprs number otherwise = otherwise
argument_position (expr_then e es) zero otherwise = first_position e
argument_position (expr_then e es) (suc number) otherwise = argument_position es number otherwise

-- the same of a call, at its name where there is no such argument
abbrev pub at_argument : Call → ℕ → Position
at_argument call number = argument_position call.arguments number call.position

-- a call with other arguments than it takes
abbrev pub refused_runs : {A : Type 0} → Call → Steps A
refused_runs call env out = fails_at code.BadArguments call.position (call.name ∷ []) env out
