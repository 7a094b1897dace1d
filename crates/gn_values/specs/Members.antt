-- Sets of the strings and of the integers among values.
use Rattle.std.specs.Prelude.{ℕ, ℤ, ◌≡◌, List}
use Rattle.std.specs.Borrow.{Bor}
use Rattle.std.specs.Ordering.{nat_cmp, int_cmp}
use Rattle.std.specs.Cmp.Lexicographic.{slice_cmp}
use Rattle.std.specs.BTreeSet.{BTreeSet, contains}
use Rattle.gn_values.specs.Val.{Val, vint, vstr}
use Rattle.gn_values.specs.Operators.{is_among}

-- the set has exactly the strings that are among the values
abbrev pub HasStrings : BTreeSet (Bor (List ℕ)) → List Val → Type 0
HasStrings set vs = (t : Bor (List ℕ)) → contains (λ s t. slice_cmp nat_cmp s.now t.now) set t ≡ is_among (vstr t.now) vs

-- the set has exactly the integers that are among the values
abbrev pub HasIntegers : BTreeSet ℤ → List Val → Type 0
HasIntegers set vs = (n : ℤ) → contains int_cmp set n ≡ is_among (vint n) vs
