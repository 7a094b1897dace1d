use Rattle.std.proofs.Common.{map, ◌∙◌, arith}
use Rattle.std.proofs.lemmas.Grind.{common_steps}
use Rattle.gn_values.specs.View.{val_of}
use Rattle.gn_calls_scopes.proofs.Gathered.{gathered_all}
use Rattle.gn_calls_scopes.proofs.selections.texts_in.Goals as goal

pub returns-in_default : goal.returns-in_default
returns-in_default c =
    let e = c.loop-value.invariant ∙ gathered_all (map val_of c.args.values.now) in
    grind (arith, common_steps, e)

pub returns : goal.returns
returns c =
    let e = c.loop-value.invariant ∙ gathered_all (map val_of c.args.values.now) in
    grind (arith, common_steps, e)
