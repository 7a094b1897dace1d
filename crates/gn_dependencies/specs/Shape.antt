-- A graph of targets, and the paths of dependencies in it.
use Rattle.std.specs.Prelude.{◌≡◌, ℕ, zero, suc, List, [], ◌∷◌, ◌++◌, Option, map, true}
use Rattle.std.specs.List.{flat_map}
use Rattle.gn_labels.specs.declared.label.Label.{Label}
use Rattle.gn_rows.specs.declared.kinds.ItemKind.{ItemKind}
use Rattle.gn_rows.specs.declared.variable.Variable.{Variable}
use Rattle.gn_rows.specs.declared.variable.Variable.TheVariants.{PublicDeps, Deps, DataDeps}
use Rattle.gn_dependencies.specs.Lists.{has}

-- What dependencies ask of a graph: the labels that the item of a label has at a variable, none where it isn't set or no item has the label; and the
-- kind of the item, where there is one
pub record Shape : Type 0 where
  pub lists : Label → Variable → List Label
  pub kind : Label → Option ItemKind

-- the dependencies that hand configurations and libraries on, in the order in which they are walked
abbrev pub near : Shape → Label → List Label
near g t = g.lists t PublicDeps ++ g.lists t Deps

abbrev pub public_near : Shape → Label → List Label
public_near g t = g.lists t PublicDeps

-- all dependencies, in dependency order; those of data hand nothing on
abbrev pub all_deps : Shape → Label → List Label
all_deps g t = near g t ++ g.lists t DataDeps

-- every path of dependencies from t has fewer than so many edges
abbrev pub EndsWithin : Shape → ℕ → Label → Type 0
EndsWithin g zero t = ⊥
EndsWithin g (suc n) t = (d : Label) → has (all_deps g t) d ≡ true → EndsWithin g n d

-- a path by its labels, without the first
abbrev pub Path : Type 0
Path = List Label

-- the edge to d, and then each path from d
abbrev pub through : Label → List Path → List Path
through d ps = (d ∷ []) ∷ map (λ (p : Path). d ∷ p) ps

-- the paths of at most so many edges, a path before its extensions, extensions in dependency order
abbrev pub paths : (Label → List Label) → ℕ → Label → List Path
paths next zero t = []
paths next (suc n) t = flat_map (λ d. through d (paths next n d)) (next t)

-- the same, where the first edge is of another kind
abbrev pub paths_after : (Label → List Label) → (Label → List Label) → ℕ → Label → List Path
paths_after first next zero t = []
paths_after first next (suc n) t = flat_map (λ d. through d (paths next n d)) (first t)

-- where a path ends
abbrev pub end_from : Label → Path → Label
end_from t [] = t
end_from t (d ∷ p) = end_from d p
