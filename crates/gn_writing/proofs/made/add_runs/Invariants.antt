use Rattle.std.proofs.Common.{◌≡◌, ◌++◌, take, map}
use Rattle.std.specs.List.{flat_map}
use Rattle.gn_writing.specs.Kinds.{run_outs}
use Rattle.gn_writing.proofs.made.add_runs.Given as goal

abbrev pub invariant-loop-run : goal.invariant-loop-run
invariant-loop-run l = map (λ t. t.now) l.outs.items ≡ map (λ t. t.now) l.fn.outs.items ++ flat_map run_outs (take l.run-index l.runs)
