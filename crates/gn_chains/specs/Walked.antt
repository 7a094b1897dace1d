-- The labels that a walk for the inherited libraries has met.
use Rattle.std.specs.Prelude.{◌≡◌, ◌↔◌, List, true}
use Rattle.gn_labels.specs.declared.label.Label.{Label}
use Rattle.gn_dependencies.specs.Lists.{has}
use Rattle.gn_dependencies.specs.Shape.{Shape}
use Rattle.gn_chains.specs.Walking.{IsMetBy}
use Rattle.gn_chains.specs.declared.kinds.Walk.TheVariants.{Libraries}

-- they are those that it meets from this target
abbrev pub AreWalked : Shape → Label → List Label → Type 0
AreWalked g t labels = (q : Label) → (has labels q ≡ true) ↔ IsMetBy Libraries g t q
