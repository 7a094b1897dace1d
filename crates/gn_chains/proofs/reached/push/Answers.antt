use Rattle.gn_chains.proofs.Reaching.{next_one}
use Rattle.gn_chains.proofs.reached.push.Goals as goal

pub returns : goal.returns
returns c = λ g e. next_one g c.args.label.now c.args.out.now _ c.args.node c.requires c.in_ok-add.ensures c.in_ok-push.ensures.items e
