use Rattle.std.proofs.Common.{◌≡◌, ◌++◌, drop, map}
use Rattle.gn_file_faults.specs.Uses.{meant}
use Rattle.gn_file_faults.specs.Writes.{execution_of, writes_from}
use Rattle.gn_file_faults.proofs.writes.writes_of.Given as goal

abbrev pub invariant-loop-number : goal.invariant-loop-number
invariant-loop-number l =
    map meant l.uses.items ++ writes_from l.made.keys l.build l.number (map execution_of (drop l.number l.executions))
    ≡ writes_from l.made.keys l.build 0 (map execution_of l.executions)
