use Rattle.std.proofs.Common.{◌≡◌, ◌++◌, take}
use Rattle.gn_ninja_text.specs.Marks.{all_marked}
use Rattle.gn_ninja_text.specs.Escapes.{path_special}
use Rattle.gn_ninja.proofs.parts.append_path.Given as goal

abbrev pub invariant-loop-byte : goal.invariant-loop-byte
invariant-loop-byte l = l.text.items ≡ l.fn.text.items ++ all_marked 36 path_special (take l.byte-index l.path)
