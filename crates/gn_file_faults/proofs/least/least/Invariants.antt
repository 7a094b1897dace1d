use Rattle.std.proofs.Common.{◌≡◌, drop, option_map}
use Rattle.gn_file_faults.specs.Least.{least_from, least_of}
use Rattle.gn_file_faults.proofs.least.least.Given as goal

abbrev pub invariant-loop-fault : goal.invariant-loop-fault
invariant-loop-fault l = least_from (option_map (λ f. f.now) l.found) (drop l.fault-index l.faults) ≡ least_of l.faults
