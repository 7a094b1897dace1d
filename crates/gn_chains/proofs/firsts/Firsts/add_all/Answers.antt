use Rattle.std.proofs.Common.{List, ◌+◌, drop, ap, sym, ◌∙◌, arith}
use Rattle.gn_labels.specs.declared.label.Label.{Label}
use Rattle.gn_dependencies.specs.Lists.{added}
use Rattle.gn_dependencies.proofs.Drops.{drop_next}
use Rattle.gn_dependencies.proofs.Kept.{one_more}
use Rattle.gn_chains.proofs.firsts.Firsts.add_all.Goals as goal

pub loop-label-preserved : goal.loop-label-preserved
loop-label-preserved c =
    let labels = c.args.labels.now in
    let i = c.loop-label.label-index in
    let out = c.loop-label.self in
    let x = c.label-item.result in
    let rest : List Label = drop (i + 1) labels in
    c.loop-label.invariant ∙ ap (λ (z : List Label). added out z) (drop_next labels i x (omega arith) c.label-item.is)
    ∙ one_more out x rest ∙ ap (λ (z : List Label). added z rest) (sym c.in_ok-add.ensures)
