-- The configurations that come along dependencies.
use Rattle.std.specs.Prelude.{◌≡◌, ℕ, List, ◌++◌, true}
use Rattle.std.specs.List.{flat_map}
use Rattle.gn_labels.specs.declared.label.Label.{Label}
use Rattle.gn_rows.specs.declared.variable.Variable.TheVariants.{Configs, PublicConfigs, AllDependentConfigs}
use Rattle.gn_dependencies.specs.Lists.{firsts, has}
use Rattle.gn_dependencies.specs.Shape.{Shape, near, public_near, all_deps, EndsWithin, Path, paths, paths_after, end_from}

-- the lists of the ends of the paths, in path order
abbrev pub at_ends : (Label → List Label) → Label → List Path → List Label
at_ends list t ps = flat_map (λ p. list (end_from t p)) ps

-- the own lists
abbrev pub all_dependent : Shape → Label → List Label
all_dependent g t = g.lists t AllDependentConfigs

abbrev pub public_configs : Shape → Label → List Label
public_configs g t = g.lists t PublicConfigs

abbrev pub own_configs : Shape → Label → List Label
own_configs g t = g.lists t Configs ++ all_dependent g t ++ public_configs g t

-- what a target hands on to all that depend on it: its own all-dependent configurations, and those of the targets that paths lead to
abbrev pub pushed : Shape → ℕ → Label → List Label
pushed g n t = firsts (all_dependent g t ++ at_ends (all_dependent g) t (paths (near g) n t))

-- what it hands on to those that have it as a dependency: its own public configurations, and those of the targets that public paths lead to
abbrev pub pushed_public : Shape → ℕ → Label → List Label
pushed_public g n t = firsts (public_configs g t ++ at_ends (public_configs g) t (paths (public_near g) n t))

-- the configurations applied: the own ones; the all-dependent ones of the ends of paths; the public ones of the ends of paths whose edges behind the
-- first are public. Each counts once, at its first place, and dependencies of data add nothing
abbrev pub applied : Shape → ℕ → Label → List Label
applied g n t =
    firsts (own_configs g t ++ at_ends (all_dependent g) t (paths (near g) n t) ++ at_ends (public_configs g) t (paths_after (near g) (public_near g) n t))

-- a list is what a target has that reaches no cycle: its paths are bounded, and the list is that of all of them
pub record IsSettled (g : Shape) (list : Shape → ℕ → Label → List Label) (t : Label) (xs : List Label) : Type 0 where
  pub depth : ℕ
  pub ends : EndsWithin g depth t
  pub is : xs ≡ list g depth t

abbrev pub IsApplied : Shape → Label → List Label → Type 0
IsApplied g t xs = IsSettled g applied t xs

abbrev pub IsPushed : Shape → Label → List Label → Type 0
IsPushed g t xs = IsSettled g pushed t xs

abbrev pub IsPushedPublic : Shape → Label → List Label → Type 0
IsPushedPublic g t xs = IsSettled g pushed_public t xs

-- what the records of targets say that they hand on
pub record Records : Type 0 where
  pub pushed : Label → List Label
  pub pushed_public : Label → List Label

-- the record of a target is there
abbrev pub IsRecorded : Shape → Records → Label → Type 0
IsRecorded g r t = IsPushed g t (r.pushed t) × IsPushedPublic g t (r.pushed_public t)

-- the records of all dependencies of a target are there; so it reaches no cycle
abbrev pub AreRecorded : Shape → Records → Label → Type 0
AreRecorded g r t = (d : Label) → has (all_deps g t) d ≡ true → IsRecorded g r d

-- the same three lists, joined of what the records of dependencies hand on
abbrev pub pushed_from : Shape → Records → Label → List Label
pushed_from g r t = all_dependent g t ++ flat_map r.pushed (near g t)

abbrev pub pushed_public_from : Shape → Records → Label → List Label
pushed_public_from g r t = public_configs g t ++ flat_map r.pushed_public (public_near g t)

abbrev pub applied_from : Shape → Records → Label → List Label
applied_from g r t = own_configs g t ++ flat_map r.pushed (near g t) ++ flat_map r.pushed_public (near g t)
