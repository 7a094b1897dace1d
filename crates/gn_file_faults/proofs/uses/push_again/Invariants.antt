use Rattle.std.proofs.Common.{◌≡◌, ◌++◌, drop, map}
use Rattle.std.specs.List.{filter}
use Rattle.gn_file_faults.specs.Uses.{meant, is_again_in, use_fault}
use Rattle.gn_file_faults.proofs.uses.push_again.Given as goal

abbrev pub invariant-loop-one : goal.invariant-loop-one
invariant-loop-one l =
    l.faults.items ++ map (use_fault l.code) (filter (is_again_in l.firsts) (map meant (drop l.one-index l.uses)))
    ≡ l.fn.faults.items ++ map (use_fault l.code) (filter (is_again_in l.firsts) (map meant l.uses))
