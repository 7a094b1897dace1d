use Rattle.std.proofs.Common.{◌≡◌, take}
use Rattle.gn_calls_text.specs.Calls.{text_list}
use Rattle.gn_calls_path.proofs.answers.copy_into.Given as goal

abbrev pub invariant-loop-text : goal.invariant-loop-text
invariant-loop-text l = l.items ≡ text_list (take l.text-index l.texts)
