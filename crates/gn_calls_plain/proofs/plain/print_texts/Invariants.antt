use Rattle.std.proofs.Common.{◌≡◌, ◌++◌, map, take, codes, false}
use Rattle.std.specs.List.{flat_map}
use Rattle.gn_values.specs.Text.{text_of}
use Rattle.gn_values.specs.View.{val_of}
use Rattle.gn_calls_plain.proofs.plain.print_texts.Given as goal

abbrev pub invariant-loop-value : goal.invariant-loop-value
invariant-loop-value l = l.line ≡ text_of false (val_of l.first) ++ flat_map (λ y. codes " " ++ text_of false y) (map val_of (take l.value-index l.rest))
