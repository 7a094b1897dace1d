-- The shortest path of dependencies, found by trying all that are no longer than there are labels.
use Rattle.std.specs.Prelude.{ℕ, zero, suc, List, [], ◌∷◌, Option, Some, None, length, if◌then◌else◌}
use Rattle.std.specs.Option.{option_map, option_or}
use Rattle.gn_labels.specs.declared.label.Label.{Label}
use Rattle.gn_dependencies.specs.Lists.{same_label}
use Rattle.gn_dependencies.specs.Shape.{Path}

-- the edge to the first of the labels from which there is a way, and that way behind it
abbrev pub first_through : (Label → Option Path) → List Label → Option Path
first_through way [] = None
first_through way (d ∷ ds) = option_or (option_map (λ (p : Path). d ∷ p) (way d)) (first_through way ds)

-- the first in dependency order of the ways of just so many edges from a label to a goal
abbrev pub first_way : (Label → List Label) → Label → ℕ → Label → Option Path
first_way next goal zero t = if same_label t goal then Some [] else None
first_way next goal (suc n) t = first_through (λ d. first_way next goal n d) (next t)

-- of the least number of edges for which there is one, counted from n on, for so many numbers
abbrev pub least_way : (Label → List Label) → Label → Label → ℕ → ℕ → Option Path
least_way next goal t n zero = None
least_way next goal t n (suc more) = option_or (first_way next goal n t) (least_way next goal t (suc n) more)

-- the shortest path from a label to a goal, where only these labels have dependencies: it has no more edges than there are of them
unfoldable pub shortest_path_in : List Label → (Label → List Label) → Label → Label → Option Path
shortest_path_in all next t goal = least_way next goal t 1 (length all)
