use Rattle.std.proofs.Common.{◌≡◌, ◌++◌, map, take}
use Rattle.gn_labels.specs.Labels.{printed}
use Rattle.gn_graph_faults.proofs.telling.append_all.Given as goal

abbrev pub invariant-loop-label : goal.invariant-loop-label
invariant-loop-label l = l.texts ≡ l.initial.texts ++ map (printed l.default) (take l.label-index l.labels)
