use Rattle.std.proofs.Common.{◌≡◌, ◌++◌, take}
use Rattle.gn_writing.specs.Outputs.{values_of, tool_outputs}
use Rattle.gn_records.specs.Expanding.{given_by}
use Rattle.gn_records.proofs.expanding.add_outputs.Given as goal

abbrev pub invariant-loop-text : goal.invariant-loop-text
invariant-loop-text l = l.paths ≡ l.fn.paths ++ tool_outputs (values_of l.by.names.now) (given_by l.by) (take l.text-index l.texts)
