use Rattle.std.proofs.Common.{sym, refl}
use Rattle.std.proofs.lemmas.Result.{on_ok_weaker}
use Rattle.gn_dependencies.specs.Shape.{all_deps}
use Rattle.gn_labelled.specs.Graphs.{shape_of}
use Rattle.gn_records.specs.Around.{around}
use Rattle.gn_resolve.specs.Steps.{surroundings_in}
use Rattle.gn_resolve.specs.Table.{is_in}
use Rattle.gn_resolve.proofs.Around.{is_around, held_around, same_surroundings}
use Rattle.gn_resolve.proofs.Ready.{each}
use Rattle.gn_resolve.proofs.PassLemmas.{left_unknown, resolves}
use Rattle.gn_resolve.proofs.resolving.resolve_ready.Goals as goal

pub returns-in-None : goal.returns-in-None
returns-in-None c = record {
  step = left_unknown c.args.frames.now c.args.graph.now.items c.args.target.now c.args.graph.now.records c.requires.held (sym c.in-None.ensures);
  same = (refl, refl);
}

pub resolve_with-requires : goal.resolve_with-requires
resolve_with-requires c =
    let frames = c.args.frames.now in
    let items = c.args.graph.now.items in
    let records = c.args.graph.now.records in
    let t = c.args.target.now in
    let a = around c.in-Some.context in
    record {
      around = is_around frames c.args.graph.now.default.now items c.requires.fit t a (sym c.in-Some.ensures);
      held = held_around frames c.args.graph.now.default.now items c.requires.fit t a (sym c.in-Some.ensures) records c.requires.held;
      ready = λ d h. each (is_in records) d (all_deps (shape_of items) t) c.requires.ready h;
    }

pub returns-in-Some-clause-step : goal.returns-in-Some-clause-step
returns-in-Some-clause-step c =
    let a = around c.in-Some.context in
    on_ok_weaker c.resolve_with.result
    (resolves c.args.frames.now c.args.graph.now.items (surroundings_in a) c.args.target.now c.args.graph.now.records c.resolve_with.new.graph.records
    (same_surroundings c.args.frames.now c.args.graph.now.default.now c.args.graph.now.items c.requires.fit c.args.target.now a (sym c.in-Some.ensures))) c.resolve_with.ensures.resolved
