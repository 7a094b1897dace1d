-- The libraries that a linked target inherits, as a function of a graph where it is known which labels have dependencies.
use Rattle.std.specs.Prelude.{ℕ, zero, suc, List, [], ◌∷◌, ◌++◌, Option, filter, length, slice_get, Bool, not, ◌&&◌, cond}
use Rattle.std.specs.List.{list_any, flat_map, cons_option}
use Rattle.gn_labels.specs.declared.label.Label.{Label}
use Rattle.gn_labels.specs.Labels.{label_order}
use Rattle.gn_dependencies.specs.Lists.{has}
use Rattle.gn_dependencies.specs.Shape.{Shape, near}
use Rattle.gn_dependencies.specs.Inherited.{links, opens, walks, is_library}
use Rattle.gn_graph_meant.specs.Computed.{in_order}
use Rattle.gn_resolved_meant.specs.Reached.{ends_in}

-- the dependencies of a target that a walk meets
abbrev pub met_near : Shape → Label → List Label
met_near g c = filter (λ d. walks (g.kind d)) (near g c)

-- the same, where the walk goes through the target
abbrev pub met_through : Shape → Label → List Label
met_through g c = cond (opens (g.kind c)) (met_near g c) []

-- the targets that a walk from t meets: those next to it, and all that paths lead to from them through targets through which the walk goes
abbrev pub walked_in : List Label → Shape → Label → List Label
walked_in all g t = flat_map (λ d. d ∷ ends_in all (met_through g) d) (met_near g t)

-- one of the targets depends on y and isn't placed
abbrev pub waits : Shape → List Label → List Label → Label → Bool
waits g walked placed y = list_any (λ z. has (near g z) y && not (has placed z)) walked

-- y isn't placed, and all of them that depend on it are
abbrev pub is_ready : Shape → List Label → List Label → Label → Bool
is_ready g walked placed y = not (has placed y) && not (waits g walked placed y)

-- the first in label order of those that are ready
abbrev pub next_in : List ℕ → Shape → List Label → List Label → Option Label
next_in default g walked placed = slice_get (in_order (label_order default) (filter (is_ready g walked placed) walked)) 0

-- what is placed after so many more turns: at each the first that is ready, if one is
abbrev pub placed_in : List ℕ → Shape → List Label → ℕ → List Label → List Label
placed_in default g walked zero placed = placed
placed_in default g walked (suc turns) placed = placed_in default g walked turns (placed ++ cons_option (next_in default g walked placed) [])

-- the walked targets in their order
abbrev pub order_in : List Label → List ℕ → Shape → Label → List Label
order_in all default g t = placed_in default g (walked_in all g t) (length (walked_in all g t)) []

-- the libraries that a target inherits: those among the walked targets in their order; none where it isn't linked
unfoldable pub inherited_in : List Label → List ℕ → Shape → Label → List Label
inherited_in all default g t = cond (links (g.kind t)) (filter (λ q. is_library (g.kind q)) (order_in all default g t)) []
