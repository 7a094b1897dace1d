-- The state of a search by breadth. What is met has numbers, from 1 on, in the order in which it is met; 0 is the label from which the search starts.
use Rattle.std.specs.Prelude.{◌≡◌, ◌⊎◌, ℕ, ◌<◌, ◌≤◌, List, [], ◌∷◌, ◌++◌, Some, length, slice_get, true}
use Rattle.gn_labels.specs.declared.label.Label.{Label}
use Rattle.gn_dependencies.specs.Lists.{has}
use Rattle.gn_dependencies.specs.Shape.{Path, end_from}
use Rattle.gn_dependencies.specs.Cycles.{IsPath}
use Rattle.gn_cycles.specs.Shortest.{ComesFirst, IsNotBehind}

-- a path from t, or none
abbrev pub IsWalk : (Label → List Label) → Label → Path → Type 0
IsWalk next t [] = Unit {0}
IsWalk next t (d ∷ p) = (has (next t) d ≡ true) × IsWalk next d p

-- the number from which a label was met first, and the way to it
pub record IsMetBy (came : List ℕ) (ways : List Path) (k : ℕ) (d : Label) : Type 0 where
  pub source : ℕ
  pub way : Path
  pub came_is : slice_get came k ≡ Some source
  pub earlier : source ≤ k
  pub way_is : slice_get ([] ∷ ways) source ≡ Some way
  pub own : slice_get ways k ≡ Some (way ++ d ∷ [])

-- for each label that was met the way that leads to it by the numbers from which labels were met
pub record AreWays (labels : List Label) (came : List ℕ) (ways : List Path) : Type 0 where
  pub sized : length ways ≡ length labels
  pub matched : length came ≡ length labels
  pub each : (k : ℕ) (d : Label) → slice_get labels k ≡ Some d → IsMetBy came ways k d

-- each label was met from a number below its own
pub record AreEarlier (labels : List Label) (came : List ℕ) : Type 0 where
  pub matched : length came ≡ length labels
  pub each : (k m : ℕ) → slice_get came k ≡ Some m → m ≤ k

-- all dependencies of the numbers below m are met, and of those of m these
pub record IsSearch (next : Label → List Label) (t : Label) (labels : List Label) (came : List ℕ) (ways : List Path) (m : ℕ) (seen : List Label) : Type 0 where
  pub known : AreWays labels came ways
  pub done : (k j : ℕ) (d : Label) → slice_get labels k ≡ Some d → slice_get came k ≡ Some j → (j < m) ⊎ ((j ≡ m) × (has seen d ≡ true))
  pub ordered : (i j : ℕ) (p q : Path) → i < j → slice_get ([] ∷ ways) i ≡ Some p → slice_get ([] ∷ ways) j ≡ Some q → ComesFirst next t p q
  pub leads : (j : ℕ) (c : Label) (p : Path) → slice_get (t ∷ labels) j ≡ Some c → slice_get ([] ∷ ways) j ≡ Some p → IsWalk next t p × (end_from t p ≡ c)
  pub first : (k : ℕ) (d : Label) (p : Path) → slice_get labels k ≡ Some d → slice_get ways k ≡ Some p → (q : Path) → IsPath next t q → end_from t q ≡ d → IsNotBehind next t p q
  pub closed : (j : ℕ) (c : Label) → j < m → slice_get (t ∷ labels) j ≡ Some c → (d : Label) → has (next c) d ≡ true → has labels d ≡ true
  pub partial : (d : Label) → has seen d ≡ true → has labels d ≡ true

-- the search is at its end: the goal is met, or the dependencies of all that is met are
abbrev pub IsSearched : (Label → List Label) → Label → Label → List Label → List ℕ → Type 0
IsSearched next t goal labels came =
    (ways : List Path) × ((m : ℕ) × (IsSearch next t labels came ways m [] × ((has labels goal ≡ true) ⊎ (length labels < m))))
