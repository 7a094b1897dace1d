use Rattle.std.proofs.Common.{◌≡◌, false, drop}
use Rattle.gn_tokens.specs.Text.{first_bad, further}
use Rattle.gn_tokens.proofs.text.bad_dollar_in.Given as goal

abbrev pub invariant-loop-i : goal.invariant-loop-i
invariant-loop-i l = further l.i (first_bad l.is_escape (drop l.i l.bytes)) ≡ first_bad false l.bytes
