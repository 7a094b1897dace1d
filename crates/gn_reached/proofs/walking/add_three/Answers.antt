use Rattle.gn_reached.proofs.State.{three_more}
use Rattle.gn_reached.proofs.walking.add_three.Goals as goal

pub returns : goal.returns
returns c =
    three_more c.add_all-3.result c.args.out.now c.add_all.new.self c.add_all-2.new.self c.add_all-3.new.self c.args.labels.0.now c.args.labels.1.now c.args.labels.2.now
    c.in_ok-add_all.ensures c.in_ok-add_all-2.ensures c.add_all-3.ensures
