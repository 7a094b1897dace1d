use Rattle.std.proofs.Common.{sym, ◌∙◌}
use Rattle.gn_chains_tests.proofs.Records.{ready}
use Rattle.gn_chains_tests.proofs.tree.Tree.applied.Goals as goal

pub applied-requires : goal.applied-requires
applied-requires c = ready c.args.self.now c.args.target.now c.requires (sym c.is_ready.ensures ∙ c.if-is_ready.true)
