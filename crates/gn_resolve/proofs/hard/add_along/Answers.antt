use Rattle.std.proofs.Common.{◌≡◌, ◌∷◌, [], List, OnOk, subst}
use Rattle.gn_labels.specs.declared.label.Label.{Label}
use Rattle.gn_dependencies.specs.Lists.{added}
use Rattle.gn_dependencies.proofs.Joins.{then_last}
use Rattle.gn_labelled.specs.Graphs.{shape_of}
use Rattle.gn_resolved_meant.specs.Reached.{hard_of}
use Rattle.gn_resolve.specs.Table.{hard_at}
use Rattle.gn_resolve.proofs.hard.add_along.Goals as goal

pub returns : goal.returns
returns c =
    then_last c.add_all.result c.args.out.now c.add_own.new.out c.add_all.new.self
    (hard_of (shape_of c.args.graph.now.items) (c.args.label.now ∷ [])) (hard_at c.args.graph.now.records c.args.label.now) c.in_ok-add_own.ensures
    (subst (λ (z : List Label). OnOk c.add_all.result (c.add_all.new.self ≡ added c.add_own.new.out z)) c.hard.ensures c.add_all.ensures)
