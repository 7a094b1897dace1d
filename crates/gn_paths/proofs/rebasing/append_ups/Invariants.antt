use Rattle.std.proofs.Common.{◌≡◌, ◌++◌, replicate}
use Rattle.gn_paths.specs.Components.{trail, two_dots}
use Rattle.gn_paths.proofs.rebasing.append_ups.Given as goal

abbrev pub invariant-loop-up : goal.invariant-loop-up
invariant-loop-up l = l.text.items ≡ l.initial.text.items ++ trail (replicate l._up two_dots)
