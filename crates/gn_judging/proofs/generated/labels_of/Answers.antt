use Rattle.std.proofs.Common.{rules}
use Rattle.gn_graph.specs.Replies.{units_in}
use Rattle.gn_judging.proofs.GeneratedLemmas.{found_more, all_found}
use Rattle.gn_judging.proofs.generated.labels_of.Goals as goal

pub loop-n-preserved : goal.loop-n-preserved
loop-n-preserved c = found_more c.args.default.now c.args.graph.now.found c.loop-n.n _ c.loop-n.labels.items _ c.fact_at.ensures c.in_ok-put.ensures c.loop-n.invariant

pub returns : goal.returns
returns c = all_found c.args.default.now c.args.graph.now.found (units_in c.args.graph.now.replies) c.loop-n.n c.loop-n.labels.items c.len-n-end.ensures.whole (search rules) c.loop-n.invariant
