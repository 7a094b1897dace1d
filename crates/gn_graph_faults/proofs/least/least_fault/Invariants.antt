use Rattle.std.proofs.Common.{◌≡◌, ℕ, ◌<◌, slice_get, Some}
use Rattle.gn_labels.specs.declared.label.Label.{Label}
use Rattle.gn_graph_faults.specs.Faults.{facts_of}
use Rattle.gn_graph_faults.specs.Least.{IsFaultless}
use Rattle.gn_graph_faults.proofs.least.least_fault.Given as goal

abbrev pub invariant-loop-target : goal.invariant-loop-target
invariant-loop-target g l = (k : ℕ) (q : Label) → k < l.target-index → slice_get l.targets k ≡ Some q → IsFaultless
    (facts_of (g.G.Graph.default l.graph) (g.G.Graph.shape l.graph) (g.G.Marks.visibility l.graph) (g.G.Marks.testonly l.graph) (g.G.Marks.forbidden l.graph) (g.G.Places.places l.graph)) q
