use Rattle.std.proofs.Common.{◌≡◌, drop}
use Rattle.std.specs.List.{list_any}
use Rattle.gn_labelled.specs.Index.{lent}
use Rattle.gn_top.specs.GraphFaults.{defines}
use Rattle.gn_top.proofs.graph_faults.is_defined.Given as goal

abbrev pub invariant-loop-item : goal.invariant-loop-item
invariant-loop-item l = list_any (defines l.default l.named) (lent (drop l.item-index l.items)) ≡ list_any (defines l.default l.named) (lent l.items)
