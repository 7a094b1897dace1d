use Rattle.std.proofs.Common.{◌≡◌, ◌++◌, take}
use Rattle.gn_ninja_text.specs.Marks.{all_marked}
use Rattle.gn_ninja_text.proofs.marks.append_marked.Given as goal

abbrev pub invariant-loop-byte : goal.invariant-loop-byte
invariant-loop-byte l = l.text.items ≡ l.fn.text.items ++ all_marked l.mark l.special (take l.byte-index l.bytes)
