use Rattle.std.proofs.Common.{◌≡◌, take, map}
use Rattle.gn_values.specs.View.{val_of, entry_of}
use Rattle.gn_values.proofs.value.+same.Given as goal

abbrev pub invariant-Items::same-loop-i : goal.invariant-Items::same-loop-i
invariant-Items::same-loop-i l = take l.i (map val_of l.mine) ≡ take l.i (map val_of l.others)

abbrev pub invariant-Entries::same-loop-i : goal.invariant-Entries::same-loop-i
invariant-Entries::same-loop-i l = take l.i (map entry_of l.mine) ≡ take l.i (map entry_of l.others)
