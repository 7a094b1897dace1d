-- The shortest path of dependencies from a label to another, and which of those that are equally long it is.
use Rattle.std.specs.Prelude.{◌≡◌, ◌⊎◌, ℕ, ◌<◌, List, [], ◌∷◌, Option, Some, None, length, take, true, false}
use Rattle.gn_labels.specs.declared.label.Label.{Label}
use Rattle.gn_dependencies.specs.Lists.{has}
use Rattle.gn_dependencies.specs.Shape.{Shape, Path, all_deps, end_from}
use Rattle.gn_dependencies.specs.Cycles.{IsPath}

-- a label stands before another in a list: some beginning of the list has it and lacks the other
abbrev pub StandsBefore : List Label → Label → Label → Type 0
StandsBefore xs d e = (k : ℕ) × (has (take k xs) d ≡ true) × (has (take k xs) e ≡ false)

-- a path from t precedes another in dependency order: where they part, the label to which it goes stands before the other's
abbrev pub Precedes : (Label → List Label) → Label → Path → Path → Type 0
Precedes next t [] q = ⊥
Precedes next t (d ∷ p) [] = ⊥
Precedes next t (d ∷ p) (e ∷ q) = StandsBefore (next t) d e ⊎ ((d ≡ e) × Precedes next d p q)

-- a shorter path comes first, and of two that are equally long the one that precedes the other
abbrev pub ComesFirst : (Label → List Label) → Label → Path → Path → Type 0
ComesFirst next t p q = (length p < length q) ⊎ ((length p ≡ length q) × Precedes next t p q)

-- the path is the other, or comes first
abbrev pub IsNotBehind : (Label → List Label) → Label → Path → Path → Type 0
IsNotBehind next t p q = (p ≡ q) ⊎ ComesFirst next t p q

-- the first of all paths from t to a goal: none is shorter, and it precedes the others that are as long
pub record IsShortest (next : Label → List Label) (t goal : Label) (p : Path) : Type 0 where
  pub path : IsPath next t p
  pub ends : end_from t p ≡ goal
  pub first : (q : Path) → IsPath next t q → end_from t q ≡ goal → IsNotBehind next t p q

-- no path leads from t to the goal
abbrev pub IsApart : (Label → List Label) → Label → Label → Type 0
IsApart next t goal = (q : Path) → IsPath next t q → end_from t q ≡ goal → ⊥

-- the shortest path, where there is one
abbrev pub IsShortestPath : (Label → List Label) → Label → Label → Option Path → Type 0
IsShortestPath next t goal None = IsApart next t goal
IsShortestPath next t goal (Some p) = IsShortest next t goal p

-- the shortest cycle of dependencies on which t lies, without the t at which it starts; None where t lies on no cycle
abbrev pub IsShortestCycle : Shape → Label → Option Path → Type 0
IsShortestCycle g t found = IsShortestPath (all_deps g) t t found
