-- Walks along dependencies: what they look at, what they meet, and through what they go.
use Rattle.std.specs.Prelude.{List, [], Option, Some, Bool, false, filter, if◌then◌else◌}
use Rattle.gn_labels.specs.declared.label.Label.{Label}
use Rattle.gn_rows.specs.declared.kinds.ItemKind.{ItemKind}
use Rattle.gn_rows.specs.declared.kinds.ItemKind.TheVariants.{Executable}
use Rattle.gn_rows.specs.Names.{is_target}
use Rattle.gn_dependencies.specs.Shape.{Shape, near, all_deps}
use Rattle.gn_dependencies.specs.Walks.{IsMet}
use Rattle.gn_dependencies.specs.Inherited.{opens, walks}
use Rattle.gn_chains.specs.declared.kinds.Walk.{Walk}
use Rattle.gn_chains.specs.declared.kinds.Walk.TheVariants as kinds

-- the targets that aren't executables
abbrev pub is_other_target : Option ItemKind → Bool
is_other_target (Some Executable) = false
is_other_target (Some kind) = is_target kind
is_other_target _ = false

-- the dependencies that a walk looks at
abbrev pub looked_at : Walk → Shape → Label → List Label
looked_at kinds.Libraries g t = near g t
looked_at kinds.Targets g t = all_deps g t

-- the kinds that it meets, and those through which it goes
abbrev pub meets : Walk → Option ItemKind → Bool
meets kinds.Libraries kind = walks kind
meets kinds.Targets kind = is_other_target kind

abbrev pub goes_through : Walk → Option ItemKind → Bool
goes_through kinds.Libraries kind = opens kind
goes_through kinds.Targets kind = is_other_target kind

-- what a walk from a target meets
abbrev pub IsMetBy : Walk → Shape → Label → Label → Type 0
IsMetBy walk g t q = IsMet (λ d. looked_at walk g d) (λ d. meets walk (g.kind d)) (λ d. goes_through walk (g.kind d)) t q

-- those of the labels that it meets
abbrev pub met : Walk → Shape → List Label → List Label
met walk g labels = filter (λ d. meets walk (g.kind d)) labels

-- what it looks at from a label: nothing where it doesn't go through it
abbrev pub opened : Walk → Shape → Label → List Label
opened walk g label = if goes_through walk (g.kind label) then looked_at walk g label else []
