-- The fault that is told of all targets.
use Rattle.std.specs.Prelude.{◌≡◌, ℕ, ◌<◌, List, ◌∷◌, Option, Some, None, slice_get, true}
use Rattle.gn_labels.specs.declared.label.Label.{Label}
use Rattle.gn_faults.specs.declared.code.Code.{Code}
use Rattle.gn_faults.specs.declared.fault.Fault.{Fault}
use Rattle.gn_dependencies.specs.Lists.{has}
use Rattle.gn_graph_faults.specs.Faults.{Facts, HasFault, AreFaults}

-- a target has no fault
abbrev pub IsFaultless : Facts → Label → Type 0
IsFaultless g t = (code : Code) (others : List Label) → HasFault g t code others → ⊥

-- the first fault of the first target that has one
pub record IsFirstFault (g : Facts) (ts : List Label) (fault : Fault) : Type 0 where
  pub place : ℕ
  pub target : Label
  pub here : slice_get ts place ≡ Some target
  pub before : (k : ℕ) (q : Label) → k < place → slice_get ts k ≡ Some q → IsFaultless g q
  pub rest : List Fault
  pub faults : AreFaults g target (fault ∷ rest)

-- None where no target has a fault
abbrev pub IsLeastFault : Facts → List Label → Option Fault → Type 0
IsLeastFault g ts None = (q : Label) → has ts q ≡ true → IsFaultless g q
IsLeastFault g ts (Some fault) = IsFirstFault g ts fault
