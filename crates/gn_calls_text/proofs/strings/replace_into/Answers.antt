use Rattle.std.proofs.Common.{◌++◌, ◌-◌, sym, ap, ◌∙◌}
use Rattle.std.proofs.lemmas.Result.{err_from_is_err_and}
use Rattle.gn_calls_text.specs.Pieces.{replaced}
use Rattle.gn_calls_text.proofs.GrowthLemmas.{text_fails, text_settled, moved, not_moved}
use Rattle.gn_calls_text.proofs.CutLemmas.{replaced_more, replaced_none, replaced_over, rest_is}
use Rattle.gn_calls_text.proofs.strings.replace_into.Goals as goal

pub returns-in_default : goal.returns-in_default
returns-in_default c =
    text_settled c.append.result _ _ _ c.append.ensures.ok c.append.ensures.fits c.append.ensures.err
    (sym c.loop-left.invariant ∙ ap (λ t. c.loop-left.text ++ t) (replaced_none c.loop-left.left c.args.old.now c.args.new.now c.loop-left.rest.now c.in_default.ensures))

pub returns-in_err-append_both : goal.returns-in_err-append_both
returns-in_err-append_both c =
    let p = err_from_is_err_and c.from_residual.result c.from_residual.ensures.1 in
    text_fails _ c.from_residual.result _ _ _ _ _ p.1 p.2 c.in_err-append_both.ensures.err
    (not_moved _ (c.split_at.result.0.now ++ c.args.new.now) _ _ _ c.loop-left.invariant (replaced_more c.loop-left.left c.in-Some.place c.args.old.now c.args.new.now c.loop-left.rest.now c.split_at.result.0.now c.loop-left-test.true c.in-Some.ensures c.split_at.ensures.front))

pub loop-left-preserved : goal.loop-left-preserved
loop-left-preserved c =
    ap (λ r. c.append_both.new.text ++ replaced (c.loop-left.left - 1) c.args.old.now c.args.new.now r) (rest_is c.loop-left.rest.now c.args.old.now c.needle-old_len.result.now c.split_at.result.1.now c.in-Some.place c.needle-old_len.ensures c.split_at.ensures.back)
    ∙ moved _ _ (c.split_at.result.0.now ++ c.args.new.now) _ _ _ c.loop-left.invariant (replaced_more c.loop-left.left c.in-Some.place c.args.old.now c.args.new.now c.loop-left.rest.now c.split_at.result.0.now c.loop-left-test.true c.in-Some.ensures c.split_at.ensures.front) c.in_ok-append_both.ensures.ok

pub returns : goal.returns
returns c =
    text_settled c.append-2.result _ _ _ c.append-2.ensures.ok c.append-2.ensures.fits c.append-2.ensures.err
    (sym c.loop-left.invariant ∙ ap (λ t. c.loop-left.text ++ t) (replaced_over c.loop-left.left c.args.old.now c.args.new.now c.loop-left.rest.now c.loop-left-test.false))
