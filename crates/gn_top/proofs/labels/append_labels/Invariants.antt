use Rattle.std.proofs.Common.{◌≡◌, ◌++◌, take, option_map}
use Rattle.std.specs.List.{flat_map}
use Rattle.gn_top.specs.Labels.{listed_line}
use Rattle.gn_top.proofs.labels.append_labels.Given as goal

abbrev pub invariant-loop-label : goal.invariant-loop-label
invariant-loop-label l =
    l.text.items ≡ l.initial.text.items ++ flat_map (listed_line l.default (option_map (λ p. p.now) l.pattern)) (take l.label-index l.labels)
