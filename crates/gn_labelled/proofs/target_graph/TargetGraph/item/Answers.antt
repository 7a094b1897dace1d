use Rattle.std.proofs.Common.{ℕ, Option, ap, sym, ◌∙◌}
use Rattle.gn_labels.specs.declared.label.Label.{Label}
use Rattle.gn_items.specs.Effects.{item_at}
use Rattle.gn_labelled.specs.Index.{item_in}
use Rattle.gn_labelled.proofs.Behind.{label_is}
use Rattle.gn_labelled.proofs.Indexing.{placed}
use Rattle.gn_labelled.proofs.target_graph.TargetGraph.item.Goals as goal

pub returns-then-eq : goal.returns-then-eq
returns-then-eq c =
    let items = c.args.self.now.items.now in
    let target = c.args.self.now.target.now in
    c.at.ensures ∙ ap (λ (place : Option ℕ). item_in items place) c.args.self.now.found ∙ placed target items
    ∙ ap (λ (q : Label). item_at q items) (sym (label_is c.args.label.now target (sym c.eq.ensures ∙ c.if-eq.true)))
