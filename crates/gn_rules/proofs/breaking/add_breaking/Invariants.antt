use Rattle.std.proofs.Common.{◌≡◌, ◌++◌, take, filter}
use Rattle.gn_rules.specs.Naming.{breaks}
use Rattle.gn_rules.proofs.breaking.add_breaking.Given as goal

abbrev pub invariant-loop-label : goal.invariant-loop-label
invariant-loop-label g l = l.out.items
    ≡ l.initial.out.items ++ filter (breaks l.rule (g.G.Graph.shape l.graph) (g.G.Marks.visibility l.graph) (g.G.Marks.testonly l.graph) l.target) (take l.label-index l.labels)
