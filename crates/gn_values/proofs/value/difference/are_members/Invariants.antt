use Rattle.std.proofs.Common.{◌≡◌, take, map, true}
use Rattle.std.specs.List.{list_all}
use Rattle.gn_values.specs.Operators.{is_among}
use Rattle.gn_values.specs.View.{val_of}
use Rattle.gn_values.proofs.value.difference.are_members.Given as goal

abbrev pub invariant-loop-value : goal.invariant-loop-value
invariant-loop-value l =
    list_all (λ w. is_among w (map val_of l.others)) (take l.value-index (map val_of l.values)) ≡ true
