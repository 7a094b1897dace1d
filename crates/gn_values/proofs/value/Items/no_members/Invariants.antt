use Rattle.std.proofs.Common.{◌≡◌, take, map}
use Rattle.gn_values.specs.Operators.{without}
use Rattle.gn_values.specs.View.{val_of}
use Rattle.gn_values.proofs.value.Items.no_members.Given as goal

abbrev pub invariant-loop-item : goal.invariant-loop-item
invariant-loop-item l = l.kept ≡ without (take l.item-index (map val_of l.item-items)) (map val_of l.others)
