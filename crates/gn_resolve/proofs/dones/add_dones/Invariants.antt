use Rattle.std.proofs.Common.{◌≡◌, ◌++◌, take}
use Rattle.gn_resolve.specs.Table.{dones_in}
use Rattle.gn_resolve.proofs.dones.add_dones.Given as goal

abbrev pub invariant-loop-label : goal.invariant-loop-label
invariant-loop-label l = l.out ≡ l.fn.out ++ dones_in l.records (take l.label-index l.labels)
