use Rattle.std.proofs.Common.{◌≡◌, ◌++◌, take}
use Rattle.gn_labelled.proofs.index.ItemIndex.add_all.Given as goal

abbrev pub invariant-loop-item : goal.invariant-loop-item
invariant-loop-item l = l.self ≡ l.initial.self ++ take l.item-index l.items
