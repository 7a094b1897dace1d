use Rattle.std.proofs.Common.{subst, sym, ap, ◌∙◌, length, IfOk, IfSome, None}
use Rattle.std.proofs.lemmas.List.{length-replicate}
use Rattle.std.proofs.lemmas.Result.{IfOk-at_ok}
use Rattle.gn_beside.specs.Dealt.{IsMade, AreSlots, ArePlaced, AreShared}
use Rattle.gn_beside.proofs.Gathered.{last_apart}
use Rattle.gn_beside.proofs.Placing.{each_from}
use Rattle.gn_beside.proofs.placed.in_places.Goals as goal

pub shares-init : goal.shares-init
shares-init g c =
    let gives = goal.F-post g c.args.make.now in
    let given = IfOk-at_ok (λ all. AreShared gives all.items) c.in_ok-left.was c.requires in
    let stand = subst (AreSlots gives) (sym c.in_ok-all.ensures) (each_from (λ place slot. IfSome slot (IsMade gives place)) None (λ place. tt) 0 c.args.count) in
    (given, stand, ap length c.in_ok-all.ensures ∙ length-replicate _ _)

pub put_all-requires-clause-placed : goal.put_all-requires-clause-placed
put_all-requires-clause-placed g c =
    let gives = goal.F-post g c.args.make.now in
    let both = last_apart (λ share. IfOk share (λ answers. ArePlaced gives answers.items)) _ _ _ c.in-Some.ensures.items c.shares.invariant.0 in
    IfOk-at_ok (λ answers. ArePlaced gives answers.items) c.in_ok-answers.was both.1

pub shares-preserved : goal.shares-preserved
shares-preserved g c =
    let gives = goal.F-post g c.args.make.now in
    let both = last_apart (λ share. IfOk share (λ answers. ArePlaced gives answers.items)) _ _ _ c.in-Some.ensures.items c.shares.invariant.0 in
    (both.0, c.put_all.ensures.put, c.put_all.ensures.count ∙ c.shares.invariant.2)
