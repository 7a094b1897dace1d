-- One list of faults is told of a target.
use Rattle.std.proofs.Common.{◌≡◌, List, map, sym, ◌∙◌, ap}
use Rattle.gn_labels.specs.declared.label.Label.{Label}
use Rattle.gn_faults.specs.declared.fault.Fault.{Fault}
use Rattle.gn_graph_faults.specs.Faults.{Facts, finding_order, told_of, AreFaults}
use Rattle.gn_graph_faults.proofs.Sorting.{same_sorted}
use Rattle.gn_graph_faults.proofs.Ordered.{findings_total}

pub one_list : (g : Facts) (t : Label) (xs ys : List Fault) → AreFaults g t xs → AreFaults g t ys → xs ≡ ys
one_list g t xs ys a b =
    a.told ∙ ap (map (told_of g t)) (same_sorted (finding_order g.default) (findings_total g.default) a.findings b.findings a.rises b.rises (λ f c. (b.each f).1 ((a.each f).0 c))
    (λ f c. (a.each f).1 ((b.each f).0 c)))
    ∙ sym b.told
