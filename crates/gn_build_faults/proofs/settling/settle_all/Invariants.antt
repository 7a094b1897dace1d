use Rattle.std.proofs.Common.{List}
use Rattle.gn_items.specs.declared.item.Item.{Item}
use Rattle.gn_build_faults.specs.Settling.{AreMarked}
use Rattle.gn_build_faults.specs.Links.{AreLinks}
use Rattle.gn_build_faults.proofs.settling.settle_all.Given as goal

abbrev pub invariant-loop-place : goal.invariant-loop-place
invariant-loop-place l = (items : List Item) → AreLinks items l.links → AreMarked items l.initial.marks → AreMarked items l.marks
