-- What holds of dependencies, of what comes along them, and of the order of what is inherited.
use Rattle.std.specs.Prelude.{◌≡◌, ◌↔◌, ℕ, ◌≤◌, suc, List, ◌∷◌, ◌++◌, length, take, slice_get, Some, true, false}
use Rattle.std.specs.List.{IsDistinct}
use Rattle.gn_labels.specs.declared.label.Label.{Label}
use Rattle.gn_labels.specs.Labels.{is_before}
use Rattle.gn_rows.specs.declared.variable.Variable.{Variable}
use Rattle.gn_dependencies.specs.Lists.{same_label, has, firsts}
use Rattle.gn_dependencies.specs.Shape.{Shape, Path, near, all_deps, EndsWithin, paths}
use Rattle.gn_dependencies.specs.Cycles.{ReachesNoCycle, Ends, OnlyThese, IsPath, Lists}
use Rattle.gn_dependencies.specs.Order.{Over}
use Rattle.gn_dependencies.specs.Inherited.{Walked, IsOrder}

-- a label that the first of a list lack stands right behind them
abbrev pub FirstPlaceCounts : Type 0
FirstPlaceCounts = (xs ys : List Label) (q : Label) → has xs q ≡ false → (rest : List Label) × (firsts (xs ++ q ∷ ys) ≡ firsts xs ++ q ∷ rest)

-- the paths of at most n edges are those that are listed
abbrev pub EachPathIsListed : Type 0
EachPathIsListed = (next : Label → List Label) (n : ℕ) (t : Label) (p : Path) → Lists (paths next n t) p ↔ (IsPath next t p × (length p ≤ n))

-- a target reaches no cycle where its paths are bounded, and they are where only some labels have dependencies
abbrev pub BoundedPathsHaveNoCycle : Type 0
BoundedPathsHaveNoCycle = (g : Shape) (n : ℕ) (t : Label) → EndsWithin g n t → ReachesNoCycle g t

abbrev pub NoCycleBoundsPaths : Type 0
NoCycleBoundsPaths = (g : Shape) (ts : List Label) → OnlyThese g ts → (t : Label) → ReachesNoCycle g t → EndsWithin g (suc (length ts)) t

-- and that is the least set that holds a target once it holds all that it depends on
abbrev pub LeastSetIsBounded : Type 0
LeastSetIsBounded = (g : Shape) (t : Label) → Ends g t ↔ ((n : ℕ) × EndsWithin g n t)

-- what a target reaches by dependencies, itself with it
pub data Reached (g : Shape) (t : Label) : Label → Type 0 where
  itself : Reached g t t
  onward : (c d : Label) → Reached g t c → has (all_deps g c) d ≡ true → Reached g t d

-- two graphs agree on all that a target reaches
pub record AgreeFrom (g h : Shape) (t : Label) : Type 0 where
  pub lists : (d : Label) → Reached g t d → (variable : Variable) → g.lists d variable ≡ h.lists d variable
  pub kind : (d : Label) → Reached g t d → g.kind d ≡ h.kind d

-- what a graph says of a target, a graph that agrees on all that it reaches says too
abbrev pub IsLocal : (Shape → Label → List Label → Type 0) → Type 0
IsLocal says = (g h : Shape) (t : Label) (xs : List Label) → AgreeFrom g h t → says g t xs → says h t xs

abbrev pub IsLocalTo : (List ℕ → Shape → Label → List Label → Type 0) → Type 0
IsLocalTo says = (default : List ℕ) → IsLocal (says default)

-- there is one such list
abbrev pub IsOne : (Shape → Label → List Label → Type 0) → Type 0
IsOne says = (g : Shape) (t : Label) (xs ys : List Label) → says g t xs → says g t ys → xs ≡ ys

abbrev pub IsOneOf : (List ℕ → Shape → Label → List Label → Type 0) → Type 0
IsOneOf says = (default : List ℕ) → IsOne (says default)

-- a walked target stands before every other to which a path of dependencies over walked targets leads from it
abbrev pub DependentsStandFirst : Type 0
DependentsStandFirst = (default : List ℕ) (g : Shape) (t : Label) (xs : List Label) → IsOrder default g t xs → (z x : Label)
    → Over same_label (near g) (is_before default) (Walked g t) z x → (k : ℕ) → slice_get xs k ≡ Some x → has (take k xs) z ≡ true

-- just the walked targets stand in the order, and each once
abbrev pub OrderHasTheWalked : Type 0
OrderHasTheWalked = (default : List ℕ) (g : Shape) (t : Label) (xs : List Label) → IsOrder default g t xs → IsDistinct same_label xs × ((q : Label) → (has xs q ≡ true) ↔ Walked g t q)
