use Rattle.std.proofs.Common.{subst}
use Rattle.std.proofs.lemmas.Result.{err_from_is_err_and}
use Rattle.gn_values.specs.View.{val_of}
use Rattle.gn_calls_text.specs.Answers.{text_answer}
use Rattle.gn_calls_text.specs.Views.{Settles}
use Rattle.gn_calls_path.specs.Labels.{label_info}
use Rattle.gn_calls_path.proofs.EachLemmas.{read_fails, read_goes}
use Rattle.gn_calls_path.proofs.labels.answer_of.Goals as goal

pub returns-in_err-label : goal.returns-in_err-label
returns-in_err-label c =
    let p = err_from_is_err_and c.from_residual.result c.from_residual.ensures.1 in
    read_fails val_of (λ l. l) 0 c.from_residual.result _ _ _ (λ l. text_answer (label_info c.args.at.now c.args.info l)) p.1 p.2 c.in_err-label.ensures

pub returns : goal.returns
returns c =
    read_goes val_of 0 c.string.result _ _ (λ l. text_answer (label_info c.args.at.now c.args.info l)) c.in_ok-label.ensures (subst (λ t. Settles val_of c.string.result (text_answer t)) c.in_ok-told.ensures c.string.ensures)
