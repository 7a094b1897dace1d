use Rattle.std.proofs.Common.{List, [], ◌∷◌, ◌++◌, take, ap, sym, subst, ◌∙◌, arith}
use Rattle.std.proofs.lemmas.List.{take_all, take_more}
use Rattle.gn_labels.specs.declared.label.Label.{Label}
use Rattle.gn_dependencies.specs.Shape.{Shape}
use Rattle.gn_chains.specs.Reached.{IsMore}
use Rattle.gn_chains.proofs.Reaching.{none_more, more_behind}
use Rattle.gn_chains.proofs.reached.meet_each.Goals as goal

pub loop-label-init : goal.loop-label-init
loop-label-init g c = none_more (g.G.Graph.shape c.args.graph.now) c.args.out.now

pub loop-label-preserved : goal.loop-label-preserved
loop-label-preserved g c =
    let s : Shape = g.G.Graph.shape c.args.graph.now in
    let labels = c.args.labels.now in
    let i = c.loop-label.label-index in
    let x = c.label-item.result in
    subst (λ (z : List Label). IsMore s z c.args.out.now c.meet.new.out) (sym (take_more labels i x (omega arith) ∙ ap (λ y. take i labels ++ y ∷ []) (sym c.label-item.is)))
    (more_behind s (take i labels) (x ∷ []) c.args.out.now c.loop-label.out c.meet.new.out c.loop-label.invariant c.in_ok-meet.ensures)

pub returns : goal.returns
returns g c =
    let s : Shape = g.G.Graph.shape c.args.graph.now in
    subst (λ (z : List Label). IsMore s z c.args.out.now c.loop-label.out) (take_all c.loop-label.label-index c.args.labels.now (omega arith)) c.loop-label.invariant
