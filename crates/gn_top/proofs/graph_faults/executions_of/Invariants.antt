use Rattle.std.proofs.Common.{◌≡◌, take, map}
use Rattle.gn_file_faults.specs.Writes.{execution_of}
use Rattle.gn_built.specs.Files.{files_of}
use Rattle.gn_top.specs.GraphFaults.{execution_in}
use Rattle.gn_top.proofs.graph_faults.executions_of.Given as goal

abbrev pub invariant-loop-execution : goal.invariant-loop-execution
invariant-loop-execution l = map execution_of l.executions.items ≡ map execution_in (files_of (take l.execution-index l.written))
