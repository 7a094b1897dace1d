use Rattle.std.proofs.Common.{◌++◌, ◌-◌, [], ◌∷◌, sym, ap, ◌∙◌}
use Rattle.std.proofs.lemmas.Result.{err_from_is_err_and}
use Rattle.gn_values.specs.Val.{vstr}
use Rattle.gn_calls_text.specs.Calls.{text_list}
use Rattle.gn_calls_text.specs.Conversions.{trimmed, lines_in}
use Rattle.gn_calls_text.specs.Pieces.{cut}
use Rattle.gn_calls_text.proofs.CutLemmas.{rest_is}
use Rattle.gn_calls_text.proofs.GrowthLemmas.{list_fails, list_settled, moved, not_moved}
use Rattle.gn_calls_text.proofs.LineLemmas.{lines_more, lines_none, lines_over}
use Rattle.gn_calls_text.proofs.conversions.lines_into.Goals as goal

pub returns-in_default : goal.returns-in_default
returns-in_default c =
    list_settled c.push_last_line.result _ _ _ c.push_last_line.ensures.ok c.push_last_line.ensures.fits c.push_last_line.ensures.err
    (sym c.loop-left.invariant.0 ∙ ap (λ ts. c.loop-left.lines ++ ts) (lines_none c.loop-left.left c.args.newline.now c.loop-left.rest.now c.in_default.ensures))

pub returns-in_err-push_line : goal.returns-in_err-push_line
returns-in_err-push_line c =
    let p = err_from_is_err_and c.from_residual.result c.from_residual.ensures.1 in
    list_fails _ c.from_residual.result _ _ (c.loop-left.lines ++ vstr (trimmed c.split_at.result.0.now) ∷ []) _ _ p.1 p.2 c.in_err-push_line.ensures.err
    (not_moved _ (vstr (trimmed c.split_at.result.0.now) ∷ []) _ _ _ c.loop-left.invariant.0 (lines_more c.loop-left.left c.in-Some.place c.args.newline.now c.loop-left.rest.now c.split_at.result.0.now c.loop-left-test.true c.in-Some.ensures c.split_at.ensures.front))

pub loop-left-preserved : goal.loop-left-preserved
loop-left-preserved c = (
  ap (λ r. c.push_line.new.lines ++ text_list (lines_in (cut (c.loop-left.left - 1) c.args.newline.now r))) (rest_is c.loop-left.rest.now c.args.newline.now c.needle-len.result.now c.split_at.result.1.now c.in-Some.place c.needle-len.ensures c.split_at.ensures.back)
      ∙ moved _ _ (vstr (trimmed c.split_at.result.0.now) ∷ []) _ _ _ c.loop-left.invariant.0 (lines_more c.loop-left.left c.in-Some.place c.args.newline.now c.loop-left.rest.now c.split_at.result.0.now c.loop-left-test.true c.in-Some.ensures c.split_at.ensures.front) c.in_ok-push_line.ensures.ok,
  c.in_ok-push_line.ensures.fits,
)

pub returns : goal.returns
returns c =
    list_settled c.push_last_line-2.result _ _ _ c.push_last_line-2.ensures.ok c.push_last_line-2.ensures.fits c.push_last_line-2.ensures.err
    (sym c.loop-left.invariant.0 ∙ ap (λ ts. c.loop-left.lines ++ ts) (lines_over c.loop-left.left c.args.newline.now c.loop-left.rest.now c.loop-left-test.false))
