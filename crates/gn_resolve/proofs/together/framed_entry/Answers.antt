use Rattle.std.proofs.Common.{sym, subst}
use Rattle.gn_basics.proofs.Results.{if_ok}
use Rattle.gn_records.specs.Around.{around}
use Rattle.gn_toolchains.specs.Toolchains.{Surroundings}
use Rattle.gn_resolve.specs.Putting.{CanBePut}
use Rattle.gn_resolve.proofs.Around.{is_around, held_around, same_surroundings}
use Rattle.gn_resolve.proofs.together.framed_entry.Goals as goal

pub labelled_entry-requires : goal.labelled_entry-requires
labelled_entry-requires c =
    let frames = c.args.frames.now in
    let items = c.args.graph.now.items in
    let t = c.args.target.now in
    let a = around c.in-Some.context in
    record {
      around = is_around frames c.args.graph.now.default.now items c.requires.fit t a (sym c.in-Some.ensures);
      held = held_around frames c.args.graph.now.default.now items c.requires.fit t a (sym c.in-Some.ensures) c.args.graph.now.records c.requires.held;
      ready = c.requires.ready;
    }

pub returns-in-Some : goal.returns-in-Some
returns-in-Some c =
    let items = c.args.graph.now.items in
    let same = same_surroundings c.args.frames.now c.args.graph.now.default.now items c.requires.fit c.args.target.now (around c.in-Some.context) (sym c.in-Some.ensures) in
    if_ok c.labelled_entry.result (λ made is. subst (λ (s : Surroundings). CanBePut s items c.args.graph.now.records made) same is) c.labelled_entry.ensures
