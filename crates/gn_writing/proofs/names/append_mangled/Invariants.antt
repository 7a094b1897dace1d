use Rattle.std.proofs.Common.{◌≡◌, ◌++◌, take}
use Rattle.gn_writing.specs.Names.{mangled}
use Rattle.gn_writing.proofs.names.append_mangled.Given as goal

abbrev pub invariant-loop-byte : goal.invariant-loop-byte
invariant-loop-byte l = l.text.items ≡ l.fn.text.items ++ mangled (take l.byte-index l.bytes)
