-- Targets that reach no cycle.
use Rattle.std.specs.Prelude.{◌≡◌, ◌⊎◌, List, [], ◌∷◌, true}
use Rattle.std.specs.List.{IsDistinct}
use Rattle.gn_labels.specs.declared.label.Label.{Label}
use Rattle.gn_dependencies.specs.Lists.{same_label, has}
use Rattle.gn_dependencies.specs.Shape.{Shape, Path, all_deps}

-- each depends on the one after it
abbrev pub IsChain : (Label → List Label) → List Label → Type 0
IsChain next [] = Unit {0}
IsChain next (x ∷ []) = Unit {0}
IsChain next (x ∷ y ∷ ys) = (has (next x) y ≡ true) × IsChain next (y ∷ ys)

-- no chain of dependencies from t visits a target twice
abbrev pub ReachesNoCycle : Shape → Label → Type 0
ReachesNoCycle g t = (xs : List Label) → IsChain (all_deps g) (t ∷ xs) → IsDistinct same_label (t ∷ xs)

-- the least set that holds a target once it holds all that it depends on
pub data Ends (g : Shape) : Label → Type 0 where
  by_dependencies : (t : Label) → ((d : Label) → has (all_deps g t) d ≡ true → Ends g d) → Ends g t

-- only these have dependencies
abbrev pub OnlyThese : Shape → List Label → Type 0
OnlyThese g ts = (t d : Label) → has (all_deps g t) d ≡ true → has ts t ≡ true

-- a path from t, of one edge at least
abbrev pub IsPath : (Label → List Label) → Label → Path → Type 0
IsPath next t [] = ⊥
IsPath next t (d ∷ []) = has (next t) d ≡ true
IsPath next t (d ∷ e ∷ p) = (has (next t) d ≡ true) × IsPath next d (e ∷ p)

-- the list has the path
abbrev pub Lists : List Path → Path → Type 0
Lists [] p = ⊥
Lists (q ∷ qs) p = (q ≡ p) ⊎ Lists qs p
