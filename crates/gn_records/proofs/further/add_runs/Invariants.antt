use Rattle.std.proofs.Common.{◌≡◌, ◌++◌, take}
use Rattle.std.specs.List.{flat_map}
use Rattle.gn_writing.specs.Kinds.{run_outs}
use Rattle.gn_records.proofs.further.add_runs.Given as goal

abbrev pub invariant-loop-run : goal.invariant-loop-run
invariant-loop-run l = l.outs ≡ l.fn.outs ++ flat_map run_outs (take l.run-index l.runs)
