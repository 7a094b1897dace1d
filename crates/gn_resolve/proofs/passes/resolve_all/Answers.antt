use Rattle.std.proofs.Common.{List, refl, subst}
use Rattle.std.proofs.lemmas.Result.{IfOk-weaker}
use Rattle.gn_items.specs.declared.item.Item.{Item}
use Rattle.gn_labelled.specs.Index.{lent}
use Rattle.gn_toolchains.specs.Frames.{surroundings}
use Rattle.gn_resolve.specs.Steps.{surroundings_of}
use Rattle.gn_resolve.specs.Whole.{AreResolved}
use Rattle.gn_resolve.proofs.Framed.{fit_over, can_over, resolved_over}
use Rattle.gn_resolve.proofs.PassLemmas.{fit_at, can_at}
use Rattle.gn_resolve.proofs.passes.resolve_all.Goals as goal

pub resolved_in-requires : goal.resolved_in-requires
resolved_in-requires g c =
    let s = surroundings c.args.surroundings in
    let items = lent c.args.items.now in
    let frames = c.args.frames.now in
    let ts = c.args.targets.now in (
      c.type_bounds.sync-R,
      (
        fit_at frames s.default s.default items c.in-Ok.index refl c.in-Ok.ensures (fit_over s items ts frames c.requires.over),
        (
          c.in_ok-records.ensures.held (surroundings_of frames) c.in-Ok.index,
          can_at frames items c.in-Ok.index ts c.in-Ok.ensures (can_over s items ts frames c.requires.over c.requires.closed c.requires.ends),
        ),
      ),
    )

pub returns-in-Ok : goal.returns-in-Ok
returns-in-Ok g c =
    let s = surroundings c.args.surroundings in
    let items = lent c.args.items.now in
    let frames = c.args.frames.now in
    let ts = c.args.targets.now in
    IfOk-weaker c.resolved_in.result (AreResolved (surroundings_of frames) c.in-Ok.index ts) (AreResolved s items ts) (λ r all.
    resolved_over s items ts frames c.requires.over r (subst (λ (z : List Item). AreResolved (surroundings_of frames) z ts r) c.in-Ok.ensures all))
    c.resolved_in.ensures
