use Rattle.gn_unit.specs.Found.{content_view}
use Rattle.gn_unit.proofs.Configurations.{content_leaves}
use Rattle.gn_unit.proofs.found.known_or_read.Goals as goal

pub returns-in-Some-clause-tree : goal.returns-in-Some-clause-tree
returns-in-Some-clause-tree c = λ need out leaves. content_leaves (content_view c.args.found) c.in-Some.tree c.args.env.now out (rw c.in-Some.is at leaves)
