use Rattle.std.proofs.Common.{◌≡◌, take}
use Rattle.gn_writing.specs.Outputs.{values_of, tool_outputs}
use Rattle.gn_writing.proofs.outputs.tool_outputs.Given as goal

abbrev pub invariant-loop-text : goal.invariant-loop-text
invariant-loop-text l = l.paths ≡ tool_outputs (values_of l.names) l.given (take l.text-index l.texts)
