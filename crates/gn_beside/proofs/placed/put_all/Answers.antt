use Rattle.std.proofs.Common.{subst, sym, ap, ◌∙◌, length, IfSome, length-set}
use Rattle.gn_beside.specs.Dealt.{IsMade, AreSlots}
use Rattle.gn_beside.proofs.Gathered.{last_apart}
use Rattle.gn_beside.proofs.Placing.{put_at}
use Rattle.gn_beside.proofs.placed.put_all.Goals as goal

pub answers-preserved : goal.answers-preserved
answers-preserved g c =
    let gives = goal.F-post g c.args._make.now in
    let had = c.answers.invariant in
    let both = last_apart (λ one. IsMade gives one.place one.answer) _ _ _ c.in-Some.ensures.items had.0 in
    let stand = subst (AreSlots gives) (sym c.put.ensures) (put_at (λ place slot. IfSome slot (IsMade gives place)) _ _ _ had.1 both.1) in
    (both.0, stand, ap length c.put.ensures ∙ length-set _ _ _ ∙ had.2)
