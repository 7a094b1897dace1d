use Rattle.std.proofs.Common.{◌≡◌, take}
use Rattle.std.specs.List.{fold}
use Rattle.gn_text.specs.Names.{with_name}
use Rattle.gn_writing.proofs.waiting.add_names.Given as goal

abbrev pub invariant-loop-text : goal.invariant-loop-text
invariant-loop-text l = l.names ≡ fold with_name l.fn.names (take l.text-index l.texts)
