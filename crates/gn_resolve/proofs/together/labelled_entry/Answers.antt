use Rattle.std.proofs.Common.{sym, subst}
use Rattle.gn_dependencies.specs.Shape.{all_deps}
use Rattle.gn_labels.specs.declared.label.Label.{Label}
use Rattle.gn_labelled.specs.Graphs.{shape_of}
use Rattle.gn_records.specs.Around.{around}
use Rattle.gn_resolve.specs.Table.{AreIn}
use Rattle.gn_resolve.specs.Steps.{surroundings_in, IsRight}
use Rattle.gn_resolve.proofs.together.labelled_entry.Goals as goal

pub returns : goal.returns
returns c =
    let items = c.args.graph.now.items in
    record {
      deps = subst (λ (t : Label). AreIn c.args.graph.now.records (all_deps (shape_of items) t)) (sym c.in_ok-label.ensures) c.requires.ready;
      right = subst (λ (t : Label). IsRight (surroundings_in (around c.args.context.now)) items t c.in_ok-entry.entry) (sym c.in_ok-label.ensures) c.in_ok-entry.ensures;
    }
