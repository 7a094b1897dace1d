use Rattle.std.proofs.Common.{◌≡◌, ℕ, length, nat_cmp, cond, Some, None, count_by}
use Rattle.std.specs.BTreeMap.{get}
use Rattle.gn_chains.specs.Numbers.{among, list_at, lists_in}
use Rattle.gn_chains.specs.Counts.{numbers}
use Rattle.gn_chains.proofs.counts.count_dependents.Given as goal

abbrev pub invariant-loop-list : goal.invariant-loop-list
invariant-loop-list l = (q : ℕ) → get nat_cmp l.counts q ≡ cond (among (numbers (length l.edges)) q) (Some (count_by (λ z. among (list_at (lists_in l.edges) z) q) (numbers l.list-index))) None
