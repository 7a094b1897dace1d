-- Walked labels by their numbers, and which of them each depends on.
use Rattle.std.specs.Prelude.{◌≡◌, ℕ, ◌<◌, zero, suc, List, [], Option, Some, None, Vec, Bool, true, false, nat_eq, slice_get, length, map}
use Rattle.std.specs.List.{list_any, IsDistinct}
use Rattle.std.specs.declared.alloc.Global.{Global}
use Rattle.gn_labels.specs.declared.label.Label.{Label}
use Rattle.gn_labels.specs.Labels.{is_before}
use Rattle.gn_dependencies.specs.Lists.{same_label, has}
use Rattle.gn_dependencies.specs.Shape.{Shape, near}

-- the list has the number
abbrev pub among : List ℕ → ℕ → Bool
among ns n = list_any (nat_eq n) ns

-- the label is there, and is this one
abbrev pub is_label : Label → Option Label → Bool
is_label label None = false
is_label label (Some q) = same_label q label

-- the list has the label, where there is one
abbrev pub has_some : List Label → Option Label → Bool
has_some labels None = false
has_some labels (Some q) = has labels q

-- the list at a place, none where there is no such place
abbrev pub list_of : Option (List ℕ) → List ℕ
list_of None = []
list_of (Some ns) = ns

abbrev pub list_at : List (List ℕ) → ℕ → List ℕ
list_at lists n = list_of (slice_get lists n)

abbrev pub lists_in : List (Vec ℕ Global) → List (List ℕ)
lists_in vs = map (λ v. v.items) vs

-- for each of so many numbers a list of such numbers, none of them twice
pub record AreNumbered (count : ℕ) (lists : List (List ℕ)) : Type 0 where
  pub sized : length lists ≡ count
  pub once : (n : ℕ) → IsDistinct nat_eq (list_at lists n)
  pub below : (n d : ℕ) → among (list_at lists n) d ≡ true → d < count

-- the numbers of those of the labels on which each of them depends
pub record AreEdges (g : Shape) (labels : List Label) (lists : List (List ℕ)) : Type 0 where
  pub numbered : AreNumbered (length labels) lists
  pub each : (n : ℕ) (z : Label) → slice_get labels n ≡ Some z → (d : ℕ) → among (list_at lists n) d ≡ has_some (near g z) (slice_get labels d)

-- every path over the lists from a number has fewer than so many edges
abbrev pub NumbersEnd : (ℕ → List ℕ) → ℕ → ℕ → Type 0
NumbersEnd next zero n = ⊥
NumbersEnd next (suc k) n = (d : ℕ) → among (next n) d ≡ true → NumbersEnd next k d

-- label order by numbers
abbrev pub one_before : List ℕ → Option Label → Option Label → Bool
one_before default None b = false
one_before default (Some a) None = false
one_before default (Some a) (Some b) = is_before default a b

abbrev pub number_before : List ℕ → List Label → ℕ → ℕ → Bool
number_before default labels m n = one_before default (slice_get labels m) (slice_get labels n)
