-- Tools that a target needs and its toolchain lacks.
use Rattle.std.specs.Prelude.{ℕ, List, [], ◌∷◌, Option, Some, None}
use Rattle.gn_labels.specs.declared.label.Label.{Label}
use Rattle.gn_labels.specs.Labels.{printed}
use Rattle.gn_items.specs.declared.item.Item.{Item}
use Rattle.gn_items.specs.declared.tool.Tool.{Tool}
use Rattle.gn_items.specs.Effects.{item_at}
use Rattle.gn_faults.specs.declared.code.Code.TheVariants.{Unresolved}
use Rattle.gn_faults.specs.declared.fault.Fault.{Fault}
use Rattle.gn_needed_tools.specs.Needed.{missing_tools}
use Rattle.gn_build_faults.specs.Told.{fault_with}

-- the names of the tools that an item needs and its toolchain, which has these tools, lacks
abbrev pub lacking : List Tool → Option Item → List (List ℕ)
lacking tools None = []
lacking tools (Some item) = missing_tools item tools

-- the first of these names is told
abbrev pub lacking_told : List ℕ → List Item → Label → List (List ℕ) → Option Fault
lacking_told default items t [] = None
lacking_told default items t (name ∷ names) = Some (fault_with default items t Unresolved (printed default t ∷ name ∷ []))

-- the first tool that a target needs and its toolchain lacks
unfoldable pub tool_fault : List ℕ → List Item → List Tool → Label → Option Fault
tool_fault default items tools t = lacking_told default items t (lacking tools (item_at t items))
