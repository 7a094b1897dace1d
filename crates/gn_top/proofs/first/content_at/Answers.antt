use Rattle.std.proofs.Common.{sym}
use Rattle.gn_top.proofs.KnownPaths.{not_missing, found_agrees}
use Rattle.gn_top.proofs.first.content_at.Goals as goal

pub unreachable-requires : goal.unreachable-requires
unreachable-requires c = not_missing c.args.read.now.entries c.args.path.now c.requires (sym (rw c.in-None.is at c.find.ensures))

pub returns : goal.returns
returns c = λ tree agrees. found_agrees tree c.args.read.now.entries c.args.path.now c.in-Some.content.now (sym (rw c.in-Some.is at c.find.ensures)) agrees
