use Rattle.std.proofs.Common.{◌≡◌, ◌++◌, take}
use Rattle.gn_labelled.specs.Index.{lent}
use Rattle.gn_labelled.proofs.index.ItemIndex.add_lent.Given as goal

abbrev pub invariant-loop-item : goal.invariant-loop-item
invariant-loop-item l = l.self ≡ l.initial.self ++ lent (take l.item-index l.items)
