use Rattle.std.proofs.Common.{◌≡◌, map, take}
use Rattle.gn_values.proofs.shared.copies_of.Given as goal

abbrev pub invariant-loop-item : goal.invariant-loop-item
invariant-loop-item g l = map g.T.Copied.seen l.copies.items ≡ take l.item-index (map g.T.Copied.seen l.items)
