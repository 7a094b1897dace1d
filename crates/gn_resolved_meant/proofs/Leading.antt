-- The ends of the paths that are listed are those of all paths.
use Rattle.std.proofs.Common.{◌≡◌, ℕ, zero, suc, ◌≤◌, ◌<◌, List, [], ◌∷◌, length, true, subst, ◌∙◌, arith}
use Rattle.gn_labels.specs.declared.label.Label.{Label}
use Rattle.gn_dependencies.specs.Lists.{has}
use Rattle.gn_dependencies.specs.Shape.{Shape, Path, all_deps, EndsWithin, paths, end_from}
use Rattle.gn_dependencies.specs.Cycles.{IsPath}
use Rattle.gn_dependencies.proofs.AllPaths.{each_path, only_paths, no_longer}
use Rattle.gn_cycles.specs.Search.{IsWalk}
use Rattle.gn_graph_meant.specs.Laws.{OnlyFrom}
use Rattle.gn_graph_meant.proofs.Shortening.{short_walk}
use Rattle.gn_resolved_meant.specs.Along.{EndsIn}
use Rattle.gn_resolved_meant.specs.Reached.{ends_in}
use Rattle.gn_resolved_meant.proofs.Members.{has_end, of_end}

-- a path from t ends in q
abbrev pub Leads : (Label → List Label) → Label → Label → Type 0
Leads next t q = (p : Path) × IsPath next t p × (end_from t p ≡ q)

pub longer : (next : Label → List Label) (t d : Label) (p : Path) → has (next t) d ≡ true → IsPath next d p → IsPath next t (d ∷ p)
longer next t d [] h i = absurd i
longer next t d (e ∷ p) h i = (h, i)

walk_of : (next : Label → List Label) (t : Label) (p : Path) → IsPath next t p → IsWalk next t p
walk_of next t [] i = absurd i
walk_of next t (d ∷ []) i = (i, tt)
walk_of next t (d ∷ e ∷ p) i = (i.0, walk_of next d (e ∷ p) i.1)

path_of : (next : Label → List Label) (t d : Label) (p : Path) → IsWalk next t (d ∷ p) → IsPath next t (d ∷ p)
path_of next t d [] w = w.0
path_of next t d (e ∷ p) w = (w.0, path_of next d e p w.1)

module _ (all : List Label) (next : Label → List Label) (t : Label) where
  pub ends_lead : (q : Label) → has (ends_in all next t) q ≡ true → Leads next t q
  ends_lead q h = let r = of_end t (paths next (suc (length all)) t) q h in (r.0, (only_paths next (suc (length all)) t r.0 r.1).0, r.2)

  short : (p : Path) → IsPath next t p → length p ≤ suc (length all) → has (ends_in all next t) (end_from t p) ≡ true
  short p i l = has_end t (paths next (suc (length all)) t) p (each_path next (suc (length all)) t p i l)

  -- where only the labels have dependencies, there is a path to the same end that has no more edges than there are labels
  pub leads_only : OnlyFrom next all → (q : Label) → Leads next t q → has (ends_in all next t) q ≡ true
  leads_only only q ([], i, e) = absurd i
  leads_only only q (d ∷ p, i, e) = on (short_walk next all only t d p (walk_of next t (d ∷ p) i))
    where
      on : ((w : Path) × IsWalk next t w × (end_from t w ≡ end_from d p) × (1 ≤ length w) × (length w ≤ length all)) → has (ends_in all next t) q ≡ true
      on ([], v, f, one, few) = absurd (omega (arith, one))
      on (c ∷ w, v, f, one, few) =
          subst (λ (z : Label). has (ends_in all next t) z ≡ true) (f ∙ e) (short (c ∷ w) (path_of next t c w v) (omega (arith, few)))

  -- where the paths have that bound, none is longer
  pub leads_within : (g : Shape) → ((s d : Label) → has (next s) d ≡ true → has (all_deps g s) d ≡ true) → EndsIn all g t → (q : Label) → Leads next t q
      → has (ends_in all next t) q ≡ true
  leads_within g within ends q (p, i, e) =
      let l : length p < suc (length all) = no_longer g next within (suc (length all)) t ends p i in
      subst (λ (z : Label). has (ends_in all next t) z ≡ true) e (short p i (omega (arith, l)))

ends_more : (g : Shape) (n : ℕ) (t : Label) → EndsWithin g n t → EndsWithin g (suc n) t
ends_more g zero t h = absurd h
ends_more g (suc n) t h = λ d i. ends_more g n d (h d i)

-- what bounds the paths of a label bounds those of its dependencies
pub ends_at : (g : Shape) (n : ℕ) (t d : Label) → EndsWithin g n t → has (all_deps g t) d ≡ true → EndsWithin g n d
ends_at g zero t d h i = absurd h
ends_at g (suc n) t d h i = ends_more g n d (h d i)
