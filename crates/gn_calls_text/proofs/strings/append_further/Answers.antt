use Rattle.std.proofs.lemmas.Result.{err_from_is_err_and}
use Rattle.gn_calls_text.proofs.GrowthLemmas.{text_fails, not_moved}
use Rattle.gn_calls_text.proofs.JoinLemmas.{further_more}
use Rattle.gn_calls_text.proofs.strings.append_further.Goals as goal

pub returns-in_err-append_both : goal.returns-in_err-append_both
returns-in_err-append_both c =
    let p = err_from_is_err_and c.from_residual.result c.from_residual.ensures.1 in
    text_fails _ c.from_residual.result _ _ _ _ _ p.1 p.2 c.in_err-append_both.ensures.err
    (not_moved _ _ _ _ _ c.loop-further.invariant.0 (further_more c.args.separator.now c.args.texts.now c.loop-further.further-index _ _ c.loop-further-test.true c.further-item.is c.bytes_of.ensures))
