use Rattle.std.specs.BTreeMap.{get}
use Rattle.std.proofs.Common.{nat_cmp, take, ◌&&◌}
use Rattle.gn_chains.specs.contracts.candidates.CandidateOrd.TheImpl.{cmp-value}
use Rattle.gn_chains.specs.Numbers.{among}
use Rattle.gn_chains.specs.Counts.{is_zero}
use Rattle.gn_chains.specs.Candidates.{IsOffered}
use Rattle.gn_chains.proofs.candidates.offer.Given as goal

abbrev pub invariant-loop-number : goal.invariant-loop-number
invariant-loop-number l = IsOffered cmp-value.it l.default l.walked (λ q. among (take l.number-index l.list) q && is_zero (get nat_cmp l.counts q)) l.initial.candidates l.candidates
