use Rattle.std.proofs.Common.{◌≡◌, ◌++◌, ◌≤◌, ℕ, List, length, drop, map}
use Rattle.std.specs.List.{list_any}
use Rattle.gn_file_faults.specs.Uses.{meant}
use Rattle.gn_file_faults.specs.Imports.{has}
use Rattle.gn_file_faults.specs.Writes.{writes, counted, write_use}
use Rattle.gn_file_faults.proofs.writes.push_writes.Given as goal

abbrev pub invariant-loop-i : goal.invariant-loop-i
invariant-loop-i l = record {
  within : l.i ≤ length l.execution.files.now;
  uses : map meant l.uses.items ≡ map meant l.fn.uses.items ++ map (write_use l.made.keys l.build l.execution.toolchain.now l.number) (counted (drop l.i l.execution.files.now));
  later : (other : List ℕ) → has l.later other ≡ list_any (writes other) (drop l.i l.execution.files.now);
}

abbrev pub decreases-loop-i : goal.decreases-loop-i
decreases-loop-i l = l.i
