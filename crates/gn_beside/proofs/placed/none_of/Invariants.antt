use Rattle.std.proofs.Common.{◌≡◌, ◌≤◌, ◌-◌, length, replicate, None}
use Rattle.gn_beside.proofs.placed.none_of.Given as goal

abbrev pub invariant-places : goal.invariant-places
invariant-places g l = (l.all.items ≡ replicate (length l.all.items) None) × (length l.all.items ≤ l.fn.count)

abbrev pub decreases-places : goal.decreases-places
decreases-places g l = l.fn.count - length l.all.items
