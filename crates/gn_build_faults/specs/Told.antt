-- A fault that tells texts.
use Rattle.std.specs.Prelude.{ℕ, List}
use Rattle.gn_labels.specs.declared.label.Label.{Label}
use Rattle.gn_items.specs.declared.item.Item.{Item}
use Rattle.gn_items.specs.Effects.{item_at}
use Rattle.gn_faults.specs.declared.code.Code.{Code}
use Rattle.gn_faults.specs.declared.stage.Stage.TheVariants.{Graph}
use Rattle.gn_faults.specs.declared.fault.Fault.{Fault}
use Rattle.gn_graph_faults.specs.Faults.{toolchain_told}
use Rattle.gn_labelled.specs.Graphs.{place_at}

-- a fault of the item of a label that tells these texts: it stands where the call stands that defines the item, under its toolchain
abbrev pub fault_with : List ℕ → List Item → Label → Code → List (List ℕ) → Fault
fault_with default items t code detail = record {
  stage = Graph;
  place = place_at (item_at t items);
  toolchain = toolchain_told default t.toolchain;
  code = code;
  detail = detail;
}
