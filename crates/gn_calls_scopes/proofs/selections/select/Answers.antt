use Rattle.std.proofs.Common.{ℕ, List, [], ◌∷◌, Option, arith}
use Rattle.std.proofs.lemmas.Grind.{common_steps}
use Rattle.gn_values.specs.Val.{Val}
use Rattle.gn_faults.specs.declared.code.Code.TheVariants as code
use Rattle.gn_meaning.specs.Steps.{Steps}
use Rattle.gn_meaning.specs.Words.{fails_at}
use Rattle.gn_calls_scopes.proofs.selections.select.Goals as goal

pub returns-in_err-excepted-in-OtherText : goal.returns-in_err-excepted-in-OtherText
returns-in_err-excepted-in-OtherText c = λ all some out.
    let next : List (List ℕ) → Steps (Option Val) = λ except env1 out1. fails_at code.BadArguments c.args.position (c.args.name.now ∷ []) env1 out1 in
    let h = c.in_err-excepted-in-OtherText.ensures next out in
    grind (arith, common_steps, h)
