use Rattle.std.proofs.Common.{◌≡◌, ℕ, ◌-◌, ◌≤◌, ◌++◌, length, replicate}
use Rattle.gn_cycles.proofs.search.fill.Given as goal

abbrev pub invariant-loop-numbers : goal.invariant-loop-numbers
invariant-loop-numbers l = (k : ℕ) × (l.numbers.items ≡ l.initial.numbers.items ++ replicate k l.number) × (k ≤ l.len - length l.initial.numbers.items)

abbrev pub decreases-loop-numbers : goal.decreases-loop-numbers
decreases-loop-numbers l = l.len - length l.numbers.items
