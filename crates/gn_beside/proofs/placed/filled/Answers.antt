use Rattle.std.proofs.Common.{◌≡◌, subst, sym, ap, ◌∙◌, length, IfSome, None, rules, length-set}
use Rattle.gn_beside.specs.Dealt.{IsMade, AreSlots}
use Rattle.gn_beside.proofs.Placing.{item_at, put_at, all_pushed_from}
use Rattle.gn_beside.proofs.placed.filled.Goals as goal

pub answer_at-requires-clause-had : goal.answer_at-requires-clause-had
answer_at-requires-clause-had g c =
    let gives = goal.F-post g c.args.make.now in
    subst (λ slot. IfSome slot (IsMade gives c.len-place.result)) (sym (c.take_at-slot.ensures.value None))
    (item_at (λ place slot. IfSome slot (IsMade gives place)) c.places.slots.items c.len-place.result None c.places.invariant.1 (search rules))

pub places-preserved : goal.places-preserved
places-preserved g c =
    let gives = goal.F-post g c.args.make.now in
    let had = c.places.invariant in
    let last : c.len-place.result ≡ length c.places.all.items = search rules in
    let is = subst (λ place. IsMade gives place c.in_ok-answer.answer) last c.in_ok-answer.ensures in
    let made = all_pushed_from (IsMade gives) _ _ c.in_ok-answer.answer c.in_ok-push.ensures.items had.0 is in
    let stand = subst (AreSlots gives) (sym c.take_at-slot.ensures.after) (put_at (λ place slot. IfSome slot (IsMade gives place)) _ _ None had.1 tt) in
    (made, stand, ap length c.take_at-slot.ensures.after ∙ length-set _ _ _ ∙ had.2, search rules)
