use Rattle.std.specs.BTreeMap.{get}
use Rattle.std.proofs.Common.{nat_cmp, ◌&&◌}
use Rattle.gn_chains.specs.contracts.candidates.CandidateOrd.TheImpl.{cmp-value}
use Rattle.gn_chains.specs.Numbers.{among}
use Rattle.gn_chains.specs.Counts.{is_zero, numbers}
use Rattle.gn_chains.specs.Candidates.{IsOffered}
use Rattle.gn_chains.proofs.candidates.offer_all.Given as goal

abbrev pub invariant-loop-number : goal.invariant-loop-number
invariant-loop-number l = IsOffered cmp-value.it l.default l.walked (λ q. among (numbers l.number) q && is_zero (get nat_cmp l.counts q)) l.initial.candidates l.candidates
