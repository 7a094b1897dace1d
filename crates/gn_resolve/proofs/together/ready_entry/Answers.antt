use Rattle.std.proofs.Common.{sym, ◌∙◌}
use Rattle.gn_dependencies.specs.Shape.{all_deps}
use Rattle.gn_labelled.specs.Graphs.{shape_of}
use Rattle.gn_resolve.specs.Table.{is_in}
use Rattle.gn_resolve.proofs.Ready.{each}
use Rattle.gn_resolve.proofs.together.ready_entry.Goals as goal

pub framed_entry-requires : goal.framed_entry-requires
framed_entry-requires c = record {
  fit = c.requires.fit;
  held = c.requires.held;
  ready = λ d h. each (is_in c.args.graph.now.records) d (all_deps (shape_of c.args.graph.now.items) c.args.target.now) (sym c.is_ready.ensures ∙ c.if-is_ready.true) h;
}
