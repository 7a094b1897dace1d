use Rattle.std.proofs.lemmas.Result.{on_ok_weaker}
use Rattle.gn_resolve.proofs.Putting.{takes_nothing, takes_one}
use Rattle.gn_resolve.proofs.together.put_one.Goals as goal

pub returns-in-None : goal.returns-in-None
returns-in-None c = takes_nothing c.args.records.now c.args.made c.in-None.is

pub returns-in-Some : goal.returns-in-Some
returns-in-Some c =
    on_ok_weaker c.put.result (λ put. takes_one c.args.records.now c.put.new.self c.in-Some.label c.in-Some.entry c.args.made c.in-Some.is put) c.put.ensures.put
