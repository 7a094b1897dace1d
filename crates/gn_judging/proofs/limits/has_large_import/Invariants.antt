use Rattle.std.proofs.Common.{ℕ, ◌<◌}
use Rattle.gn_book.specs.Logs.{key_at, state_of}
use Rattle.gn_judging.specs.Limits.{IsLarge}
use Rattle.gn_judging.proofs.limits.has_large_import.Given as goal

abbrev pub invariant-loop-number : goal.invariant-loop-number
invariant-loop-number l = (n : ℕ) → n < l.number → IsLarge (state_of l.book).filed (key_at l.book n) → ⊥
