use Rattle.std.proofs.Common.{◌-◌, length, nat_cmp}
use Rattle.std.specs.BTreeMap.{get}
use Rattle.std.specs.BTreeSet.{contains}
use Rattle.gn_chains.specs.contracts.candidates.CandidateOrd.TheImpl.{cmp-value}
use Rattle.gn_chains.specs.Numbers.{list_at, lists_in, number_before}
use Rattle.gn_chains.specs.Counts.{numbers}
use Rattle.gn_chains.specs.Candidates.{candidate_at, AreCandidates}
use Rattle.gn_chains.proofs.Placing.{OrderState}
use Rattle.gn_chains.proofs.order.order.Given as goal

abbrev pub invariant-loop-number : goal.invariant-loop-number
invariant-loop-number l = record {
  state : OrderState (list_at (lists_in l.edges)) (number_before l.default l.walked) (numbers (length l.walked)) l.order.items (get nat_cmp l.counts)
      (λ q. contains cmp-value.it l.candidates (candidate_at l.default l.walked q));
  all : AreCandidates l.default l.walked l.candidates.keys;
}

abbrev pub decreases-loop-number : goal.decreases-loop-number
decreases-loop-number l = length l.walked - length l.order.items
