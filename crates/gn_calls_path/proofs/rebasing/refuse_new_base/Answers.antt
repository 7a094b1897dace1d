use Rattle.std.proofs.Common.{Some}
use Rattle.std.proofs.lemmas.Result.{err_from_is_err_and}
use Rattle.gn_values.specs.View.{val_of}
use Rattle.gn_calls_text.specs.Answers.{refuses}
use Rattle.gn_calls_path.specs.Each.{texts_of}
use Rattle.gn_calls_path.specs.Views.{given_of}
use Rattle.gn_calls_path.proofs.EachLemmas.{first_fails}
use Rattle.gn_calls_path.proofs.rebasing.refuse_new_base.Goals as goal

pub returns-in_err-judge : goal.returns-in_err-judge
returns-in_err-judge c =
    let p = err_from_is_err_and c.from_residual.result c.from_residual.ensures.1 in
    first_fails val_of c.from_residual.result _ _ (Some c.args.current_base.now) _ (texts_of (given_of c.args.given)) (refuses c.args.code (Some 1)) p.1 p.2 c.in_err-judge.ensures c.as_slice.ensures
