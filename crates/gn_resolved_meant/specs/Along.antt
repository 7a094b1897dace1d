-- The configurations that come along dependencies, as functions of a graph where it is known which labels have dependencies.
use Rattle.std.specs.Prelude.{List, suc, length}
use Rattle.gn_labels.specs.declared.label.Label.{Label}
use Rattle.gn_dependencies.specs.Shape.{Shape, EndsWithin}
use Rattle.gn_dependencies.specs.Configurations.{applied, pushed, pushed_public}

-- no path of dependencies from t has more edges than there are labels that have dependencies: it is so where t reaches no cycle
abbrev pub EndsIn : List Label → Shape → Label → Type 0
EndsIn all g t = EndsWithin g (suc (length all)) t

-- the configurations applied to a target, where only these labels have dependencies
unfoldable pub applied_in : List Label → Shape → Label → List Label
applied_in all g t = applied g (suc (length all)) t

-- what it hands on to all that depend on it
unfoldable pub pushed_in : List Label → Shape → Label → List Label
pushed_in all g t = pushed g (suc (length all)) t

-- what it hands on to those that have it as a dependency
unfoldable pub pushed_public_in : List Label → Shape → Label → List Label
pushed_public_in all g t = pushed_public g (suc (length all)) t
