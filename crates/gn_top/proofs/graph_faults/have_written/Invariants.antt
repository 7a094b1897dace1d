use Rattle.std.proofs.Common.{◌≡◌, drop, map}
use Rattle.std.specs.List.{list_any}
use Rattle.gn_file_faults.specs.Writes.{execution_of}
use Rattle.gn_top.specs.GraphFaults.{has_written}
use Rattle.gn_top.proofs.graph_faults.have_written.Given as goal

abbrev pub invariant-loop-execution : goal.invariant-loop-execution
invariant-loop-execution l = list_any has_written (map execution_of (drop l.execution-index l.executions)) ≡ list_any has_written (map execution_of l.executions)
