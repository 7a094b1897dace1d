-- Walks: paths, or none.
use Rattle.std.proofs.Common.{◌≡◌, List, [], ◌∷◌, ◌++◌, true, refl}
use Rattle.gn_labels.specs.declared.label.Label.{Label}
use Rattle.gn_dependencies.specs.Lists.{has}
use Rattle.gn_dependencies.specs.Shape.{Path, end_from}
use Rattle.gn_dependencies.specs.Cycles.{IsPath}
use Rattle.gn_cycles.specs.Search.{IsWalk}

module _ (next : Label → List Label) where
  pub walk_path : (t d : Label) (p : Path) → IsWalk next t (d ∷ p) → IsPath next t (d ∷ p)
  walk_path t d [] h = h.0
  walk_path t d (e ∷ p) h = (h.0, walk_path d e p h.1)

  pub path_walk : (t : Label) (p : Path) → IsPath next t p → IsWalk next t p
  path_walk t [] h = absurd h
  path_walk t (d ∷ []) h = (h, tt)
  path_walk t (d ∷ e ∷ p) h = (h.0, path_walk d (e ∷ p) h.1)

  pub walk_more : (t d : Label) (p : Path) → IsWalk next t p → has (next (end_from t p)) d ≡ true → IsWalk next t (p ++ d ∷ [])
  walk_more t d [] h i = (i, tt)
  walk_more t d (x ∷ p) h i = (h.0, walk_more x d p h.1 i)

  -- a walk that isn't empty is a path
  pub more_path : (t d : Label) (p : Path) → IsWalk next t (p ++ d ∷ []) → IsPath next t (p ++ d ∷ [])
  more_path t d [] h = h.0
  more_path t d (x ∷ p) h = walk_path t x (p ++ d ∷ []) h

pub end_more : (t d : Label) (p : Path) → end_from t (p ++ d ∷ []) ≡ d
end_more t d [] = refl
end_more t d (x ∷ p) = end_more x d p
