use Rattle.std.proofs.Common.{List, ◌+◌, drop, ap, sym, ◌∙◌, arith}
use Rattle.std.specs.List.{flat_map}
use Rattle.gn_labels.specs.declared.label.Label.{Label}
use Rattle.gn_dependencies.specs.Lists.{added}
use Rattle.gn_dependencies.proofs.Drops.{drop_next}
use Rattle.gn_dependencies.proofs.Kept.{list_more}
use Rattle.gn_resolve.specs.Table.{hard_along}
use Rattle.gn_resolve.proofs.hard.add_each.Goals as goal

pub loop-label-preserved : goal.loop-label-preserved
loop-label-preserved c =
    let f : Label → List Label = hard_along c.args.graph.now.items c.args.graph.now.records in
    let labels = c.args.labels.now in
    let i = c.loop-label.label-index in
    let out = c.loop-label.out in
    let x = c.label-item.result in
    let rest : List Label = flat_map f (drop (i + 1) labels) in
    c.loop-label.invariant ∙ ap (λ (z : List Label). added out (flat_map f z)) (drop_next labels i x (omega arith) c.label-item.is)
    ∙ list_more out (f x) rest ∙ ap (λ (z : List Label). added z rest) (sym c.in_ok-add_along.ensures)
