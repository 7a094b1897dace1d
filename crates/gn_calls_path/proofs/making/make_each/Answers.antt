use Rattle.std.proofs.Common.{◌∙◌}
use Rattle.std.proofs.lemmas.Result.{err_from_is_err_and}
use Rattle.gn_calls_path.specs.Views.{made_at}
use Rattle.gn_calls_path.proofs.EachLemmas.{each_begun, each_more, each_failed, each_ended, found_fails}
use Rattle.gn_calls_path.proofs.making.make_each.Goals as goal

pub loop-text-init : goal.loop-text-init
loop-text-init c = each_begun (made_at c.args.at.now c.args.making) c.args.texts.now _ c.in_ok-made.ensures.items

pub loop-text-preserved : goal.loop-text-preserved
loop-text-preserved c =
    each_more (made_at c.args.at.now c.args.making) c.args.texts.now c.loop-text.text-index _ _ _ _ _ c.loop-text-test.true c.text-item.is c.bytes_of.ensures c.in_ok-make.ensures c.in_ok-put.ensures
    ∙ c.loop-text.invariant

pub returns-in_err-make : goal.returns-in_err-make
returns-in_err-make c =
    let p = err_from_is_err_and c.from_residual-in_err-make.result c.from_residual-in_err-make.ensures.1 in
    found_fails _ (λ p. p) 0 c.from_residual-in_err-make.result _ _ _ _ p.1 p.2 c.in_err-make.ensures
    (each_failed (made_at c.args.at.now c.args.making) c.args.texts.now c.loop-text.text-index _ _ _ _ c.loop-text-test.true c.text-item.is c.bytes_of.ensures c.loop-text.invariant)

pub returns : goal.returns
returns c = each_ended (made_at c.args.at.now c.args.making) c.args.texts.now c.loop-text.text-index _ _ c.loop-text-test.false c.loop-text.invariant
