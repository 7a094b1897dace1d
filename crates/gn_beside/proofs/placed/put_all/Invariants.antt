use Rattle.std.proofs.Common.{◌≡◌, length}
use Rattle.gn_beside.specs.Dealt.{ArePlaced, AreSlots}
use Rattle.gn_beside.proofs.placed.put_all.Given as goal

abbrev pub invariant-answers : goal.invariant-answers
invariant-answers g l = ArePlaced (goal.F-post g l.fn._make) l.answers.items × AreSlots (goal.F-post g l.fn._make) l.all.items × (length l.all.items ≡ length l.fn.all.items)

abbrev pub decreases-answers : goal.decreases-answers
decreases-answers g l = length l.answers.items
