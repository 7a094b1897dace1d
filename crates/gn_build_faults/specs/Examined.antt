-- What targets have by themselves, and the fault that is told where that is known.
use Rattle.std.specs.Prelude.{ℕ, List, [], ◌∷◌, Option, Some, None}
use Rattle.gn_labels.specs.declared.label.Label.{Label}
use Rattle.gn_items.specs.declared.item.Item.{Item}
use Rattle.gn_items.specs.Effects.{item_at}
use Rattle.gn_faults.specs.declared.fault.Fault.{Fault}
use Rattle.gn_records.specs.Around.{Around}
use Rattle.gn_build_faults.specs.Outputs.{made_around, with_each, output_fault}
use Rattle.gn_build_faults.specs.Faults.{first_of, own_fault}
use Rattle.gn_build_faults.specs.declared.examined.Examined.{Examined}

-- a target, its first fault besides those of its outputs, and what it makes
pub record ExaminedState : Type 0 where
  pub target : Label
  pub fault : Option Fault
  pub outputs : List (List ℕ)

abbrev pub examined_state : Examined → ExaminedState
examined_state found = record { target = found.target.now; fault = found.fault; outputs = found.outputs }

-- that of a target, by what is known around it; no fault and no outputs where nothing is known
abbrev pub examined_at : List ℕ → List Item → Option Around → Label → ExaminedState
examined_at default items None t = record { target = t; fault = None; outputs = [] }
examined_at default items (Some a) t = record { target = t; fault = own_fault default items a t; outputs = made_around a (item_at t items) }

-- by what is known around the targets of each toolchain
abbrev pub examined_of : List ℕ → List Item → (known : List ℕ → Option Around) → Label → ExaminedState
examined_of default items known t = examined_at default items (known t.toolchain) t

-- the first fault of a target that has this by itself, where the targets before it make these outputs
abbrev pub fault_with_outputs : List ℕ → List Item → Option Around → (before : List (List ℕ)) → ExaminedState → Option Fault
fault_with_outputs default items None before x = None
fault_with_outputs default items (Some a) before x = first_of x.fault (output_fault default items a.build before x.outputs x.target)

-- these outputs and those of a target
abbrev pub with_examined : Option Around → (before : List (List ℕ)) → ExaminedState → List (List ℕ)
with_examined None before x = before
with_examined (Some a) before x = with_each before x.outputs

-- the first fault of the first of targets that has one, where each has this by itself
abbrev pub fault_of_examined : List ℕ → List Item → (known : List ℕ → Option Around) → (before : List (List ℕ)) → List ExaminedState → Option Fault
fault_of_examined default items known before [] = None
fault_of_examined default items known before (x ∷ xs) =
    first_of (fault_with_outputs default items (known x.target.toolchain) before x) (fault_of_examined default items known (with_examined (known x.target.toolchain) before x) xs)
