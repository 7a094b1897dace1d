use Rattle.gn_chains_tests.specs.Trees.{shape_in}
use Rattle.gn_chains_tests.proofs.Records.{put}
use Rattle.gn_chains_tests.proofs.tree.Tree.put.Goals as goal

pub returns : goal.returns
returns c =
    put (shape_in c.args.self.now) c.args.target c.args.kept c.args.self.now.records c.insert.new.self c.in_ok-insert.ensures.updates c.requires.right c.requires.holds
