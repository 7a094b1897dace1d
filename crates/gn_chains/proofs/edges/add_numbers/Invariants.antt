use Rattle.std.proofs.Common.{◌≡◌, ℕ, ◌||◌, take, slice_get}
use Rattle.gn_chains.specs.Numbers.{among, has_some}
use Rattle.gn_chains.proofs.edges.add_numbers.Given as goal

abbrev pub invariant-loop-label : goal.invariant-loop-label
invariant-loop-label l = (n : ℕ) → among l.out.keys n ≡ (among l.initial.out.keys n || has_some (take l.label-index l.labels) (slice_get l.walked n))
