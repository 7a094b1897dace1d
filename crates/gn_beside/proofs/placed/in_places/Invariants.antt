use Rattle.std.proofs.Common.{◌≡◌, length}
use Rattle.gn_beside.specs.Dealt.{AreShared, AreSlots}
use Rattle.gn_beside.proofs.placed.in_places.Given as goal

abbrev pub invariant-shares : goal.invariant-shares
invariant-shares g l = AreShared (goal.F-post g l.fn.make) l.left.items × AreSlots (goal.F-post g l.fn.make) l.all.items × (length l.all.items ≡ l.fn.count)

abbrev pub decreases-shares : goal.decreases-shares
decreases-shares g l = length l.left.items
