use Rattle.std.proofs.Common.{◌∙◌}
use Rattle.std.proofs.lemmas.Result.{err_from_is_err_and}
use Rattle.gn_calls_path.specs.Labels.{pattern_at}
use Rattle.gn_calls_path.proofs.EachLemmas.{each_begun, each_more, each_failed, each_ended, found_fails}
use Rattle.gn_calls_path.proofs.reading.read_patterns.Goals as goal

pub loop-text-init : goal.loop-text-init
loop-text-init c = each_begun (pattern_at c.args.at.now) c.args.texts.now _ c.in_ok-patterns.ensures.items

pub loop-text-preserved : goal.loop-text-preserved
loop-text-preserved c =
    each_more (pattern_at c.args.at.now) c.args.texts.now c.loop-text.text-index _ _ _ _ _ c.loop-text-test.true c.text-item.is c.bytes_of.ensures c.in_ok-read_pattern.ensures c.in_ok-put.ensures
    ∙ c.loop-text.invariant

pub returns-in_err-read_pattern : goal.returns-in_err-read_pattern
returns-in_err-read_pattern c =
    let p = err_from_is_err_and c.from_residual-in_err-read_pattern.result c.from_residual-in_err-read_pattern.ensures.1 in
    found_fails _ (λ p. p) 1 c.from_residual-in_err-read_pattern.result _ _ _ _ p.1 p.2 c.in_err-read_pattern.ensures
    (each_failed (pattern_at c.args.at.now) c.args.texts.now c.loop-text.text-index _ _ _ _ c.loop-text-test.true c.text-item.is c.bytes_of.ensures c.loop-text.invariant)

pub returns : goal.returns
returns c = each_ended (pattern_at c.args.at.now) c.args.texts.now c.loop-text.text-index _ _ c.loop-text-test.false c.loop-text.invariant
