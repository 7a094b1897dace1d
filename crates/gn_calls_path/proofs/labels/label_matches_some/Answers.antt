use Rattle.std.proofs.Common.{ap, ◌∙◌, sym}
use Rattle.std.proofs.lemmas.Result.{err_from_is_err_and}
use Rattle.std.specs.declared.alloc.Global.{Global}
use Rattle.std.specs.declared.vec.Vec.{Vec}
use Rattle.gn_labels.specs.declared.pattern.Pattern.{Pattern}
use Rattle.gn_values.specs.Val.{vbool}
use Rattle.gn_values.specs.View.{val_of}
use Rattle.gn_calls_text.specs.Answers.{gives}
use Rattle.gn_calls_path.specs.Found.{read_at}
use Rattle.gn_calls_path.specs.Labels.{some_matches}
use Rattle.gn_calls_path.proofs.EachLemmas.{read_fails}
use Rattle.gn_calls_path.proofs.labels.label_matches_some.Goals as goal

pub returns-in_err-patterns : goal.returns-in_err-patterns
returns-in_err-patterns c =
    let p = err_from_is_err_and c.from_residual.result c.from_residual.ensures.1 in
    read_fails val_of (λ (v : Vec Pattern Global). v.items) 1 c.from_residual.result _ _ _ (λ ps. gives (vbool (some_matches c.args.label.now ps))) p.1 p.2 c.in_err-patterns.ensures

pub returns : goal.returns
returns c =
    ap (λ f. read_at 1 f (λ ps. gives (vbool (some_matches c.args.label.now ps)))) c.in_ok-patterns.ensures
    ∙ ap (λ ps. gives (vbool (some_matches c.args.label.now ps))) (sym c.as_slice.ensures.value)
    ∙ ap (λ b. gives (vbool b)) (sym c.some_matches-matches.ensures)
