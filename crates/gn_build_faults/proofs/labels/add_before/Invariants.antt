use Rattle.std.proofs.Common.{◌≡◌, ◌++◌, drop}
use Rattle.std.specs.List.{filter}
use Rattle.gn_labels.specs.Labels.{is_before}
use Rattle.gn_build_faults.proofs.labels.add_before.Given as goal

abbrev pub invariant-loop-target : goal.invariant-loop-target
invariant-loop-target l =
    l.before.items ++ filter (λ t. is_before l.default t l.label) (drop l.target-index l.targets) ≡ l.initial.before.items ++ filter (λ t. is_before l.default t l.label) l.targets
