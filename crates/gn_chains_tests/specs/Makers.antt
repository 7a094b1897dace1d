-- What targets in memory make.
use Rattle.std.specs.Prelude.{ℕ, List, [], Option, Some, None, Vec}
use Rattle.std.specs.declared.alloc.Global.{Global}
use Rattle.indexmap.specs.IndexMap.{get}
use Rattle.gn_labels.specs.declared.label.Label.{Label}
use Rattle.gn_labels.specs.contracts.label.LabelPartialEq.TheImpl.{eq-value}
use Rattle.gn_chains_tests.specs.declared.makers.Makers.{Makers}

abbrev pub outputs_in : Makers → Label → Option (Vec (List ℕ) Global)
outputs_in m label = get eq-value.it m.outputs label

abbrev pub made_of : Option (Vec (List ℕ) Global) → List (List ℕ)
made_of None = []
made_of (Some outputs) = outputs.items

abbrev pub made_in : Makers → Label → List (List ℕ)
made_in m label = made_of (outputs_in m label)
