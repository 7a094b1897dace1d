use Rattle.std.proofs.Common.{◌≡◌, drop}
use Rattle.gn_syntax.specs.Counting.{behind_bytes}
use Rattle.gn_syntax.proofs.place.behind_bytes.Given as goal

abbrev pub invariant-loop-byte : goal.invariant-loop-byte
invariant-loop-byte l = behind_bytes l.here (drop l.byte-index l.bytes) ≡ behind_bytes l.fn.position l.bytes
