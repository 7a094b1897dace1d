use Rattle.std.proofs.Common.{◌≡◌, ℕ, nat_cmp, cond, Some, None}
use Rattle.std.specs.BTreeMap.{get}
use Rattle.gn_chains.specs.Numbers.{among}
use Rattle.gn_chains.specs.Counts.{numbers}
use Rattle.gn_chains.proofs.counts.zeros.Given as goal

abbrev pub invariant-loop-number : goal.invariant-loop-number
invariant-loop-number l = (q : ℕ) → get nat_cmp l.counts q ≡ cond (among (numbers l.number) q) (Some 0) None
