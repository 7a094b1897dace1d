use Rattle.std.proofs.Common.{◌≡◌, map, take}
use Rattle.gn_records.specs.Around.{around}
use Rattle.gn_records.specs.Actions.{run_for}
use Rattle.gn_records.proofs.runs.runs_for.Given as goal

abbrev pub invariant-loop-source : goal.invariant-loop-source
invariant-loop-source l = l.runs.items ≡ map (run_for (around l.context) l.item) (take l.source-index l.sources)
