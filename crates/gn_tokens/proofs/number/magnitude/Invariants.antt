use Rattle.std.proofs.Common.{◌≡◌, ◌≤◌, ◌^◌, drop}
use Rattle.gn_tokens.specs.Number.{decimal, decimal_from}
use Rattle.gn_tokens.proofs.number.magnitude.Given as goal

abbrev pub invariant-loop-b : goal.invariant-loop-b
invariant-loop-b l = record {
  value : decimal_from l.n (drop l.b-index l.digits) ≡ decimal l.digits;
  bound : l.n ≤ 2 ^ 63;
}
