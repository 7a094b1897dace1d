-- The bases of the evaluations of a build, as the code has them.
use Rattle.std.specs.Prelude.{◌≡◌, List, [], Option, Some, None}
use Rattle.gn_definitions.specs.Imported.{ImportState}
use Rattle.gn_items.specs.Effects.{Effects}
use Rattle.gn_items.specs.declared.item.Item.{Item}
use Rattle.gn_executions.specs.Base.{BaseState}
use Rattle.gn_core.specs.Keys.{Key, Read, Import, Unit_of, Resolve, Filed, Leaving, UnitLeft, layer_of}
use Rattle.gn_projects.specs.Bases.{base_of_layer}
use Rattle.gn_answers.specs.Answers.{unit_left}

-- a base, or the one with which the build starts
abbrev pub or_start : BaseState → Option BaseState → BaseState
or_start start None = start
or_start start (Some base) = base

-- a base is that of the evaluation of a key, over some part of what is filed; what evaluates nothing has any
abbrev pub IsBaseFor : BaseState → Filed → Key → BaseState → Type 0
IsBaseFor start part (Read path) base = Unit {0}
IsBaseFor start part (Import l path) base = base ≡ base_of_layer start part l
IsBaseFor start part (Unit_of k) base = base ≡ base_of_layer start part (layer_of k)
IsBaseFor start part (Resolve label) base = Unit {0}

-- what a unit has left, as it is filed
abbrev pub leaving : Option ImportState → Effects → Leaving UnitLeft
leaving beneath effects = record { value = unit_left beneath effects; effects = effects }

-- the items that a unit has left; none where it has left nothing
abbrev pub items_in : Option (Leaving UnitLeft) → List Item
items_in None = []
items_in (Some left) = left.effects.items
