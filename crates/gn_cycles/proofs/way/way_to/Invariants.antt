use Rattle.gn_cycles.proofs.Searching.{IsGoing}
use Rattle.gn_cycles.proofs.way.way_to.Given as goal

abbrev pub invariant-loop-left : goal.invariant-loop-left
invariant-loop-left l = IsGoing l.search.labels l.search.sources.items l.number l.left l.way.items

abbrev pub decreases-loop-left : goal.decreases-loop-left
decreases-loop-left l = l.left
