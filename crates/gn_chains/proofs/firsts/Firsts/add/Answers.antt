use Rattle.gn_dependencies.proofs.SameLabel.{once}
use Rattle.gn_chains.proofs.Places.{is_there, put}
use Rattle.gn_chains.proofs.firsts.Firsts.add.Goals as goal

pub returns-then-contains : goal.returns-then-contains
returns-then-contains c = rw (← c.self.view_is) (is_there c.self.inside.labels.keys c.args.label.now c.contains.result c.contains.ensures c.if-contains.true)

pub invariant_of-self-2 : goal.invariant_of-self-2
invariant_of-self-2 c = once c.insert.new.self.keys c.insert.ensures.unique

pub returns : goal.returns
returns c = rw (← c.self.view_is) (put c.self.inside.labels.keys c.insert.new.self.keys c.in_ok-label.label c.args.label.now c.in_ok-label.ensures c.in_ok-insert.ensures.keys)
