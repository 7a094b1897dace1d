use Rattle.std.proofs.Common.{map}
use Rattle.std.proofs.lemmas.Result.{err_from_is_err_and}
use Rattle.gn_values.specs.Val.{vbool}
use Rattle.gn_values.specs.View.{val_of}
use Rattle.gn_calls_text.specs.Answers.{gives}
use Rattle.gn_calls_text.specs.Views.{bytes_in}
use Rattle.gn_calls_path.specs.Found.{each, read_at}
use Rattle.gn_calls_path.specs.Labels.{pattern_at, some_matches}
use Rattle.gn_calls_path.proofs.EachLemmas.{read_fails, read_goes}
use Rattle.gn_calls_path.proofs.labels.matches_of.Goals as goal

pub returns-in_err-label : goal.returns-in_err-label
returns-in_err-label c =
    let p = err_from_is_err_and c.from_residual.result c.from_residual.ensures.1 in
    read_fails val_of (λ l. l) 0 c.from_residual.result _ _ _ (λ l. read_at 1 (each (pattern_at c.args.at.now) (map bytes_in c.args.texts.now)) (λ ps. gives (vbool (some_matches l ps)))) p.1 p.2 c.in_err-label.ensures

pub returns : goal.returns
returns c =
    read_goes val_of 0 c.label_matches_some-answer.result _ _ (λ l. read_at 1 (each (pattern_at c.args.at.now) (map bytes_in c.args.texts.now)) (λ ps. gives (vbool (some_matches l ps)))) c.in_ok-label.ensures
    c.label_matches_some-answer.ensures
