-- Targets that reach no cycle.
use Rattle.std.specs.Prelude.{◌≡◌, ℕ, List, true}
use Rattle.gn_labels.specs.declared.label.Label.{Label}
use Rattle.gn_dependencies.specs.Lists.{has}
use Rattle.gn_dependencies.specs.Shape.{Shape, EndsWithin}

-- the paths of dependencies from each of the labels have a bound, so each reaches no cycle
abbrev pub AreSettled : Shape → List Label → Type 0
AreSettled g labels = (q : Label) → has labels q ≡ true → (n : ℕ) × EndsWithin g n q
