use Rattle.std.proofs.Common.{◌≡◌, ◌++◌, ◌∷◌, [], map, take}
use Rattle.gn_graph_faults.specs.Faults.{fault_told}
use Rattle.gn_graph_faults.proofs.adding.add_listed.Given as goal

abbrev pub invariant-loop-label : goal.invariant-loop-label
invariant-loop-label g l = l.out.items
    ≡ l.initial.out.items ++ map (λ label. fault_told (g.G.Graph.default l.graph) (g.G.Places.places l.graph l.target) l.target l.code (label ∷ [])) (take l.label-index l.labels)
