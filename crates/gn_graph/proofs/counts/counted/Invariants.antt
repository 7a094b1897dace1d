use Rattle.std.proofs.Common.{◌-◌}
use Rattle.gn_graph.specs.Counts.{AreCounts}
use Rattle.gn_graph.proofs.counts.counted.Given as goal

abbrev pub invariant-loop-counts : goal.invariant-loop-counts
invariant-loop-counts l = AreCounts l.closure.found l.counts

abbrev pub decreases-loop-counts : goal.decreases-loop-counts
decreases-loop-counts l = l.end - l.counts.seen
