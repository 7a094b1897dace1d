use Rattle.std.proofs.Common.{◌≡◌, ℕ, take, nat_cmp}
use Rattle.std.specs.BTreeMap.{get}
use Rattle.gn_chains.specs.Numbers.{among}
use Rattle.gn_chains.specs.Counts.{lessened}
use Rattle.gn_chains.proofs.counts.lessen.Given as goal

abbrev pub invariant-loop-number : goal.invariant-loop-number
invariant-loop-number l = (q : ℕ) → get nat_cmp l.counts q ≡ lessened (among (take l.number-index l.list) q) (get nat_cmp l.initial.counts q)
