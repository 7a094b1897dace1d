use Rattle.std.proofs.Common.{◌≡◌, ◌++◌, drop}
use Rattle.gn_faults.specs.Texts.{filled}
use Rattle.gn_faults.proofs.printing.append_filled.Given as goal

abbrev pub invariant-loop-byte : goal.invariant-loop-byte
invariant-loop-byte l = l.text ++ filled (drop l.byte-index l.template) l.rest ≡ l.fn.text ++ filled l.template l.fn.details
