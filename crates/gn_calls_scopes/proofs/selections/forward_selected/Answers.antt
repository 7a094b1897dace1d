use Rattle.std.proofs.Common.{ℕ, List, Option, None, arith}
use Rattle.std.proofs.lemmas.Grind.{common_steps}
use Rattle.gn_values.specs.Val.{Val}
use Rattle.gn_environment.specs.Declaring.{all_brought}
use Rattle.gn_env.specs.Origins.{origin_of}
use Rattle.gn_meaning.specs.Steps.{Steps, ends}
use Rattle.gn_meaning.specs.Selections.{listed_forwarded_runs}
use Rattle.gn_calls_scopes.proofs.selections.forward_selected.Goals as goal

pub returns-in_err-except : goal.returns-in_err-except
returns-in_err-except c = λ out.
    let all : List (List ℕ) → Steps (Option Val) = λ except env1 out1. ends None (all_brought c.args.position (origin_of c.args.origin) except env1) out1 in
    let some : List (List ℕ) → List (List ℕ) → Steps (Option Val) = λ listed except env1 out1. listed_forwarded_runs (origin_of c.args.origin) listed except c.args.position env1 out1 in
    let h = c.in_err-except.ensures all some out in
    grind (arith, common_steps, h)
