-- Texts of tools that a target uses and that are no paths.
use Rattle.std.specs.Prelude.{ℕ, List, [], Option, Some, None}
use Rattle.gn_labels.specs.declared.label.Label.{Label}
use Rattle.gn_items.specs.declared.item.Item.{Item}
use Rattle.gn_items.specs.Effects.{item_at}
use Rattle.gn_faults.specs.declared.code.Code.{Code}
use Rattle.gn_faults.specs.declared.fault.Fault.{Fault}
use Rattle.gn_records.specs.Around.{Around}
use Rattle.gn_tool_texts.specs.Used.{wrong_text}
use Rattle.gn_build_faults.specs.Told.{fault_with}

-- why a text that an item uses is no path, if one is none; nothing where there is no item
abbrev pub wrong_at : Around → Option Item → Option Code
wrong_at a None = None
wrong_at a (Some item) = wrong_text a item

-- such a fault tells no text
abbrev pub path_told : List ℕ → List Item → Label → Option Code → Option Fault
path_told default items t None = None
path_told default items t (Some code) = Some (fault_with default items t code [])

-- the fault of a target whose texts of tools aren't all paths
unfoldable pub path_fault : List ℕ → List Item → Around → Label → Option Fault
path_fault default items a t = path_told default items t (wrong_at a (item_at t items))
