use Rattle.std.proofs.Common.{◌++◌, ◌-◌, [], ◌∷◌, sym, ap, ◌∙◌}
use Rattle.std.proofs.lemmas.Result.{err_from_is_err_and}
use Rattle.gn_values.specs.Val.{vstr}
use Rattle.gn_calls_text.specs.Calls.{text_list}
use Rattle.gn_calls_text.specs.Pieces.{cut}
use Rattle.gn_calls_text.proofs.GrowthLemmas.{list_fails, list_settled, moved, not_moved}
use Rattle.gn_calls_text.proofs.CutLemmas.{cut_more, cut_none, cut_over, rest_is}
use Rattle.gn_calls_text.proofs.strings.cut_into.Goals as goal

pub returns-in_default : goal.returns-in_default
returns-in_default c =
    list_settled c.push_text.result _ _ _ c.push_text.ensures.ok c.push_text.ensures.fits c.push_text.ensures.err
    (sym c.loop-left.invariant ∙ ap (λ ts. c.loop-left.pieces ++ text_list ts) (cut_none c.loop-left.left c.args.separator.now c.loop-left.rest.now c.in_default.ensures))

pub returns-in_err-push_text : goal.returns-in_err-push_text
returns-in_err-push_text c =
    let p = err_from_is_err_and c.from_residual.result c.from_residual.ensures.1 in
    list_fails _ c.from_residual.result _ _ (c.loop-left.pieces ++ vstr c.split_at.result.0.now ∷ []) _ _ p.1 p.2 c.in_err-push_text.ensures.err
    (not_moved _ (vstr c.split_at.result.0.now ∷ []) _ _ _ c.loop-left.invariant (ap text_list (cut_more c.loop-left.left c.in-Some.place c.args.separator.now c.loop-left.rest.now c.split_at.result.0.now c.loop-left-test.true c.in-Some.ensures c.split_at.ensures.front)))

pub loop-left-preserved : goal.loop-left-preserved
loop-left-preserved c =
    ap (λ r. c.push_text-in-loop-left.new.items ++ text_list (cut (c.loop-left.left - 1) c.args.separator.now r)) (rest_is c.loop-left.rest.now c.args.separator.now c.needle-len.result.now c.split_at.result.1.now c.in-Some.place c.needle-len.ensures c.split_at.ensures.back)
    ∙ moved _ _ (vstr c.split_at.result.0.now ∷ []) _ _ _ c.loop-left.invariant (ap text_list (cut_more c.loop-left.left c.in-Some.place c.args.separator.now c.loop-left.rest.now c.split_at.result.0.now c.loop-left-test.true c.in-Some.ensures c.split_at.ensures.front)) c.in_ok-push_text.ensures.ok

pub returns : goal.returns
returns c =
    list_settled c.push_text-2.result _ _ _ c.push_text-2.ensures.ok c.push_text-2.ensures.fits c.push_text-2.ensures.err
    (sym c.loop-left.invariant ∙ ap (λ ts. c.loop-left.pieces ++ text_list ts) (cut_over c.loop-left.left c.args.separator.now c.loop-left.rest.now c.loop-left-test.false))
