use Rattle.std.proofs.Common.{◌≡◌, take, map}
use Rattle.gn_writing.specs.Kinds.{run_block}
use Rattle.gn_ninja.specs.Format.{with_blocks}
use Rattle.gn_ninja.proofs.targets.append_runs.Given as goal

abbrev pub invariant-loop-run : goal.invariant-loop-run
invariant-loop-run l = l.text.items ≡ with_blocks l.fn.text.items (map (run_block l.action) (take l.run-index l.action.runs))
