use Rattle.gn_bases.proofs.SetupLemmas.{put_shows}
use Rattle.gn_bases.proofs.setup.put.Goals as goal

pub returns : goal.returns
returns c = rw c.in_ok-_former.ensures.entries (put_shows c.args.known.now.entries c.args.path c.args.content)
