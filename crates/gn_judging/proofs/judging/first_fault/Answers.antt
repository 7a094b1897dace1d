use Rattle.std.proofs.Common.{refl, rules}
use Rattle.gn_judging.proofs.JudgingLemmas.{no_keys, one_more, all_keys}
use Rattle.gn_judging.proofs.judging.first_fault.Goals as goal

pub loop-number-init : goal.loop-number-init
loop-number-init c = no_keys c.args.book.now _ refl

pub loop-number-preserved : goal.loop-number-preserved
loop-number-preserved c =
    one_more c.fault_order_is_strict.ensures c.args.book.now c.loop-number.number _ c.loop-number.first c.in_ok-fault.fault c.first_of-first.result c.key.ensures c.loop-number.invariant c.in_ok-fault.ensures c.first_of-first.ensures

pub returns : goal.returns
returns c = all_keys c.args.book.now c.loop-number.number c.loop-number.first (search rules) c.loop-number.invariant
