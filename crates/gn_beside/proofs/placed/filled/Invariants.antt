use Rattle.std.proofs.Common.{◌≡◌, ◌≤◌, ◌-◌, length}
use Rattle.gn_threads.specs.Places.{AllFrom}
use Rattle.gn_beside.specs.Dealt.{IsMade, AreSlots}
use Rattle.gn_beside.proofs.placed.filled.Given as goal

abbrev pub invariant-places : goal.invariant-places
invariant-places g l = AllFrom (IsMade (goal.F-post g l.fn.make)) 0 l.all.items × AreSlots (goal.F-post g l.fn.make) l.slots.items
    × (length l.slots.items ≡ length l.fn.slots.items) × (length l.all.items ≤ length l.slots.items)

abbrev pub decreases-places : goal.decreases-places
decreases-places g l = length l.slots.items - length l.all.items
