use Rattle.std.proofs.Common.{◌≡◌, List, Bool, ◌+◌, drop, ap, sym, ◌∙◌, arith}
use Rattle.gn_labels.specs.declared.label.Label.{Label}
use Rattle.gn_dependencies.specs.Lists.{added}
use Rattle.gn_dependencies.proofs.Drops.{drop_next}
use Rattle.gn_dependencies.proofs.Joins.{filter_more, filter_less}
use Rattle.gn_chains.specs.Walking.{meets, met}
use Rattle.gn_chains.proofs.walk.add_met.Goals as goal
use Rattle.gn_chains.proofs.walk.add_met.Goals.{then-meets+in_ok-add, else-meets}

pub loop-label-preserved : goal.loop-label-preserved
loop-label-preserved g c =
    let s = g.G.Graph.shape c.args.graph.now in
    let walk = c.args.walk in
    let p : Label → Bool = λ d. meets walk (s.kind d) in
    let labels = c.args.labels.now in
    let i = c.loop-label.label-index in
    let out = c.loop-label.out in
    let x = c.label-item.result in
    let rest : List Label = drop (i + 1) labels in
    let now = c.loop-label.invariant ∙ ap (λ (z : List Label). added out (met walk s z)) (drop_next labels i x (omega arith) c.label-item.is) in
    let is : c.meets.result ≡ p x = c.meets.ensures ∙ ap (meets walk) c.kind.ensures in
    elim c.if-meets.branch [
      | then-meets+in_ok-add w ↦ now ∙ filter_more p out x rest (sym is ∙ w.if-meets.true) ∙ ap (λ (z : List Label). added z (met walk s rest)) (sym (w.out-is ∙ w.in_ok-add.ensures))
      | else-meets w ↦ now ∙ filter_less p out x rest (sym is ∙ w.if-meets.false) ∙ ap (λ (z : List Label). added z (met walk s rest)) (sym w.out-is)
    ]
