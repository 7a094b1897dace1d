use Rattle.std.proofs.Common.{Some, None}
use Rattle.std.proofs.lemmas.Result.{err_from_is_err_and}
use Rattle.gn_values.specs.View.{val_of}
use Rattle.gn_calls_text.specs.Answers.{refuses}
use Rattle.gn_calls_path.specs.Each.{texts_of}
use Rattle.gn_calls_path.specs.Found.{read_at}
use Rattle.gn_calls_path.specs.Views.{new_base_of, given_of}
use Rattle.gn_calls_path.proofs.EachLemmas.{first_fails}
use Rattle.gn_calls_path.proofs.rebasing.refuse_current_base.Goals as goal

pub returns-in_err-judge : goal.returns-in_err-judge
returns-in_err-judge c =
    let p = err_from_is_err_and c.from_residual.result c.from_residual.ensures.1 in
    first_fails val_of c.from_residual.result _ _ None _ (texts_of (given_of c.args.given)) (read_at 1 (new_base_of c.args.new_base.now) (λ base. refuses c.args.code (Some 2))) p.1 p.2 c.in_err-judge.ensures c.as_slice.ensures
