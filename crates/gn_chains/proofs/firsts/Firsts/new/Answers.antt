use Rattle.gn_dependencies.proofs.SameLabel.{once}
use Rattle.gn_chains.proofs.firsts.Firsts.new.Goals as goal

pub invariant_of-result : goal.invariant_of-result
invariant_of-result c = once c.new.result.keys c.new.ensures.unique
