use Rattle.std.proofs.Common.{◌≡◌, ◌++◌, true, map, length}
use Rattle.gn_values.specs.Limits.{list_fits}
use Rattle.gn_values.specs.View.{val_of}
use Rattle.gn_calls_text.specs.Calls.{list_list}
use Rattle.gn_calls_text.specs.Pieces.{lengths, lists_of, parted}
use Rattle.gn_calls_text.proofs.PartedLemmas.{total}
use Rattle.gn_calls_text.proofs.lists.split_into.Given as goal

abbrev pub invariant-loop-left : goal.invariant-loop-left
invariant-loop-left l =
    (l.lists ++ list_list (lists_of (lengths l.left l.least l.longer) (map val_of l.rest)) ≡ list_list (parted l.count (map val_of l.values)))
    × ((total (lengths l.left l.least l.longer) ≡ length l.rest) × ((list_fits (map val_of l.rest) ≡ true) × (list_fits l.lists ≡ true)))

abbrev pub decreases-loop-left : goal.decreases-loop-left
decreases-loop-left l = l.left
