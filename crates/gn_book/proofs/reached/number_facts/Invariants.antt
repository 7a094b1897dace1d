use Rattle.std.proofs.Common.{◌≤◌, ◌-◌}
use Rattle.gn_book.specs.Graphs.{Looked}
use Rattle.gn_book.proofs.reached.number_facts.Given as goal

abbrev pub invariant-loop-seen : goal.invariant-loop-seen
invariant-loop-seen g l = Looked l.graph.found l.initial.seen l.initial.roster l.seen l.roster × (l.seen ≤ l.end)

abbrev pub decreases-loop-seen : goal.decreases-loop-seen
decreases-loop-seen g l = l.end - l.seen
