use Rattle.std.proofs.Common.{List, ℕ, sym, subst}
use Rattle.std.proofs.lemmas.Result.{IfOk-weaker}
use Rattle.gn_records.specs.Around.{around}
use Rattle.gn_resolve.specs.Steps.{surroundings_in, IsRight}
use Rattle.gn_resolve.specs.Table.{IsMade}
use Rattle.gn_resolve.proofs.Held.{recorded}
use Rattle.gn_resolve.proofs.making.resolve.Goals as goal

pub made-requires : goal.made-requires
made-requires c =
    recorded (surroundings_in (around c.args.context.now)) c.args.graph.now.items c.args.graph.now.records c.requires.held c.args.target.now c.requires.ready

pub returns : goal.returns
returns c =
    let a = around c.args.context.now in
    let s = surroundings_in a in
    let items = c.args.graph.now.items in
    let r = c.args.graph.now.records in
    let t = c.args.target.now in
    IfOk-weaker c.made.result (IsMade a c.args.graph.now.default.now items r t) (IsRight s items t) (λ e made.
    c.what_is_made_is_right.ensures s items t r (record { held = c.requires.held; ready = c.requires.ready }) a c.requires.around.right e
    (subst (λ (d : List ℕ). IsMade a d items r t e) (sym c.requires.around.same) made))
    c.made.ensures
