use Rattle.gn_resolve.proofs.Putting.{takes_none, takes_more}
use Rattle.gn_resolve.proofs.together.put_all.Goals as goal

pub loop-one-init : goal.loop-one-init
loop-one-init c = takes_none c.args.records.now

pub loop-one-preserved : goal.loop-one-preserved
loop-one-preserved c =
    takes_more c.args.records.now c.loop-one.records c.put_one.new.records c.loop-one.yielded c.in-Some.one c.loop-one.invariant c.in_ok-put_one.ensures
