-- Where a search for a name ends among entries that are in order.
use Rattle.std.specs.Prelude.{ℕ, ◌≡◌, ◌<◌, ◌≤◌, List, length, Result, MatchResult}
use Rattle.std.specs.List.{HoldsAt}
use Rattle.std.specs.List.Sorted.{IsPartitionPoint}
use Rattle.std.specs.Ordering.{nat_cmp}
use Rattle.std.specs.Cmp.Lexicographic.{slice_cmp}
use Rattle.std.specs.declared.cmp.Ordering.TheVariants.{Less, Equal, Greater}
use Rattle.gn_values.specs.Val.{Val}
use Rattle.gn_values.specs.declared.value.Entry.{Entry}

-- at the entry of the name, or at the place between those before it and those after it
abbrev pub IsPlaceOf : List ℕ → List Entry → Result ℕ ℕ → Type 0
IsPlaceOf name es r = MatchResult r
    (λ i. (i < length es) × HoldsAt (λ e. slice_cmp nat_cmp e.name name ≡ Equal) es i)
    (λ i. (i ≤ length es) × IsPartitionPoint (λ e. slice_cmp nat_cmp e.name name ≡ Less) (λ e. slice_cmp nat_cmp e.name name ≡ Greater) es i)

-- the entry of this number has the name
abbrev pub IsEntryAt : List ℕ → List (List ℕ × Val) → ℕ → Type 0
IsEntryAt name bs i = (i < length bs) × HoldsAt (λ b. slice_cmp nat_cmp b.0 name ≡ Equal) bs i
