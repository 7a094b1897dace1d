use Rattle.std.proofs.Common.{◌++◌, List, Bool, filter, ap, sym, ◌∙◌, arith}
use Rattle.std.proofs.lemmas.List.{take_all}
use Rattle.gn_labels.specs.declared.label.Label.{Label}
use Rattle.gn_rules.specs.Naming.{breaks}
use Rattle.gn_rules.proofs.Filters.{one_kept, one_left}
use Rattle.gn_rules.proofs.breaking.add_breaking.Goals as goal
use Rattle.gn_rules.proofs.breaking.add_breaking.Goals.{then-breaks+in_ok-push_copy, else-breaks}

pub loop-label-preserved : goal.loop-label-preserved
loop-label-preserved g c =
    let p : Label → Bool = breaks c.args.rule (g.G.Graph.shape c.args.graph.now) (g.G.Marks.visibility c.args.graph.now) (g.G.Marks.testonly c.args.graph.now) c.args.target.now in
    let labels = c.args.labels.now in
    let i = c.loop-label.label-index in
    let x = c.label-item.result in
    elim c.if-breaks.branch [
      | then-breaks+in_ok-push_copy w ↦ ap (λ v. v.items) w.out-is ∙ one_kept p c.args.out.now.items c.loop-label.out.items w.push_copy.new.labels.items labels i x (omega arith) c.label-item.is (sym c.breaks.ensures ∙ w.if-breaks.true) c.loop-label.invariant w.in_ok-push_copy.ensures
      | else-breaks w ↦ ap (λ v. v.items) w.out-is ∙ one_left p c.args.out.now.items c.loop-label.out.items labels i x (omega arith) c.label-item.is (sym c.breaks.ensures ∙ w.if-breaks.false) c.loop-label.invariant
    ]

pub returns : goal.returns
returns g c =
    let p : Label → Bool = breaks c.args.rule (g.G.Graph.shape c.args.graph.now) (g.G.Marks.visibility c.args.graph.now) (g.G.Marks.testonly c.args.graph.now) c.args.target.now in
    c.loop-label.invariant ∙ ap (λ (z : List Label). c.args.out.now.items ++ filter p z) (take_all c.loop-label.label-index c.args.labels.now (omega arith))
