use Rattle.gn_top.proofs.KnownPaths.{knows_put, agrees_put}
use Rattle.gn_top.proofs.first.put_known.Goals as goal

pub returns-clause-known : goal.returns-clause-known
returns-clause-known c = rw c.in_ok-insert.ensures.entries (knows_put c.args.read.now.entries c.args.path c.args.content)

pub returns-clause-agrees : goal.returns-clause-agrees
returns-clause-agrees c = rw c.in_ok-insert.ensures.entries (λ tree agrees here. agrees_put tree c.args.read.now.entries c.args.path c.args.content agrees here)
