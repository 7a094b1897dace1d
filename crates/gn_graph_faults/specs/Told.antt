-- The faults of a target as they are told, code by code.
use Rattle.std.specs.Prelude.{◌≡◌, ◌↔◌, ℕ, ◌+◌, ◌<◌, List, [], ◌∷◌, true, map}
use Rattle.std.specs.List.{Contains}
use Rattle.std.specs.List.Sorted.{IsStrictlySortedBy}
use Rattle.gn_labels.specs.declared.label.Label.{Label}
use Rattle.gn_faults.specs.declared.code.Code.{Code}
use Rattle.gn_faults.specs.declared.fault.Fault.{Fault}
use Rattle.gn_faults.specs.Numbers.{code_number}
use Rattle.gn_dependencies.specs.Lists.{has}
use Rattle.gn_graph_faults.specs.Faults.{Facts, HasFault, Finding, told_of, finding_order}

-- just the faults are told that a target has of the codes below a number, in their order and each once
pub record AreBelow (g : Facts) (t : Label) (number : ℕ) (faults : List Fault) : Type 0 where
  pub findings : List Finding
  pub rises : IsStrictlySortedBy (finding_order g.default) findings
  pub each : (f : Finding) → Contains findings f ↔ (HasFault g t f.code f.others × (code_number f.code < number))
  pub told : faults ≡ map (told_of g t) findings

-- where those of the codes before this one were told, now those of this one are told too
abbrev pub TellsMore : Facts → Label → Code → List Fault → List Fault → Type 0
TellsMore g t code old new = AreBelow g t (code_number code) old → AreBelow g t (code_number code + 1) new

-- a target has a fault of the code for each of these labels, and no other of it
pub record AreFaulty (g : Facts) (t : Label) (code : Code) (labels : List Label) : Type 0 where
  pub each : (d : Label) → (has labels d ≡ true) ↔ HasFault g t code (d ∷ [])
  pub alone : (others : List Label) → HasFault g t code others → (d : Label) × (others ≡ d ∷ [])
