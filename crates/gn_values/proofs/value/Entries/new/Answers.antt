use Rattle.std.proofs.Common.{refl, arith}
use Rattle.std.specs.List.Sorted.{IsStrictlySortedBy}
use Rattle.gn_values.proofs.value.Entries.new.Goals as goal

pub invariant_of-result : goal.invariant_of-result
unfolding IsStrictlySortedBy
invariant_of-result c = rw c.new.ensures (record { counted = refl; limits = record { shallow = omega arith; sorted = tt } })
