use Rattle.std.proofs.Common.{◌≡◌, ◌+◌, false, drop}
use Rattle.gn_tokens.specs.Text.{text_len}
use Rattle.gn_tokens.proofs.text.text_length.Given as goal

abbrev pub invariant-loop-i : goal.invariant-loop-i
invariant-loop-i l = l.i + text_len l.is_escape (drop l.i l.bytes) ≡ text_len false l.bytes
