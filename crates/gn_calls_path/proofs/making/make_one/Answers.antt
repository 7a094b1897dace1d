use Rattle.std.proofs.lemmas.Result.{err_from_is_err_and}
use Rattle.gn_values.specs.View.{val_of}
use Rattle.gn_calls_text.specs.Answers.{text_answer}
use Rattle.gn_calls_path.proofs.EachLemmas.{read_fails, read_goes}
use Rattle.gn_calls_path.proofs.making.make_one.Goals as goal

pub returns-in_err-make : goal.returns-in_err-make
returns-in_err-make c =
    let p = err_from_is_err_and c.from_residual.result c.from_residual.ensures.1 in
    read_fails val_of (λ t. t) 0 c.from_residual.result _ _ _ text_answer p.1 p.2 c.in_err-make.ensures

pub returns : goal.returns
returns c = read_goes val_of 0 c.string.result _ _ text_answer c.in_ok-make.ensures c.string.ensures
