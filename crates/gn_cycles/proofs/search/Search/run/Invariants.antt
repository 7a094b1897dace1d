use Rattle.std.proofs.Common.{◌+◌, ◌-◌, ◌^◌}
use Rattle.gn_dependencies.specs.Shape.{all_deps}
use Rattle.gn_cycles.proofs.Searching.{Passed}
use Rattle.gn_cycles.proofs.search.Search.run.Given as goal

abbrev pub invariant-loop-next : goal.invariant-loop-next
invariant-loop-next g l = Passed (all_deps (g.G.Graph.shape l.graph)) l.from l.self.labels l.self.sources.items (l.next + 1)

abbrev pub decreases-loop-next : goal.decreases-loop-next
decreases-loop-next g l = 2 ^ 64 - l.next
