use Rattle.std.proofs.Common.{ℕ, ◌++◌, ◌∷◌, [], List, map, ap, subst, ◌∙◌}
use Rattle.std.proofs.lemmas.Result.{on_ok_weaker}
use Rattle.gn_labels.specs.declared.label.Label.{Label}
use Rattle.gn_graph_faults.specs.Faults.{Facts, facts_of, fault_told}
use Rattle.gn_graph_faults.specs.Order.{AreInOrder}
use Rattle.gn_graph_faults.proofs.ToldMore.{more_labels}
use Rattle.gn_graph_faults.proofs.adding.add_each.Goals as goal

pub returns : goal.returns
returns g c =
    let facts : Facts = facts_of (g.G.Graph.default c.args.graph.now) (g.G.Graph.shape c.args.graph.now) (g.G.Marks.visibility c.args.graph.now) (g.G.Marks.testonly c.args.graph.now)
    (g.G.Marks.forbidden c.args.graph.now) (g.G.Places.places c.args.graph.now) in
    let labels = c.args.labels.now.items in
    let ordered = c.put_in_order.new.labels.items in
    on_ok_weaker c.add_listed.result
    (λ e. more_labels c.codes_have_different_numbers.ensures facts c.args.target.now c.args.code labels ordered c.requires
    (subst (λ (z : List ℕ). AreInOrder z labels ordered) c.default_toolchain.ensures c.put_in_order.ensures) c.args.out.now.items c.add_listed.new.out.items
    (e ∙ ap (λ (z : List Label). c.args.out.now.items ++ map (λ label. fault_told facts.default (facts.places c.args.target.now) c.args.target.now c.args.code (label ∷ [])) z) c.as_slice.ensures.value))
    c.add_listed.ensures
