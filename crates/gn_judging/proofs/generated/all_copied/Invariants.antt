use Rattle.std.proofs.Common.{◌≡◌, map, take}
use Rattle.gn_judging.specs.Generated.{label_lent}
use Rattle.gn_judging.proofs.generated.all_copied.Given as goal

abbrev pub invariant-loop-label : goal.invariant-loop-label
invariant-loop-label l = l.labels.items ≡ map (label_lent l.default) (take l.label-index l.lent)
