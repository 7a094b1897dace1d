use Rattle.std.proofs.Common.{◌≡◌, vec_len}
use Rattle.gn.proofs.start.sources.Given as goal

abbrev pub invariant-loop : goal.invariant-loop
invariant-loop g l = vec_len l.sources ≡ l.counter
