use Rattle.std.proofs.Common.{◌≡◌, ◌++◌, drop}
use Rattle.gn_answers.proofs.needs.append_labels.Given as goal

abbrev pub invariant-loop-label : goal.invariant-loop-label
invariant-loop-label l = l.labels.items ++ drop l.label-index l.more ≡ l.initial.labels.items ++ l.more
