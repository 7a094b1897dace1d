-- What holds of the faults of targets.
use Rattle.std.specs.Prelude.{◌≡◌, ℕ, List, true, false}
use Rattle.std.specs.declared.cmp.Ordering.{Ordering}
use Rattle.std.specs.Ordering.{ordering_then, is_lt}
use Rattle.std.specs.List.Sorted.{IsStrictlySortedBy}
use Rattle.gn_labels.specs.declared.label.Label.{Label}
use Rattle.gn_labels.specs.Labels.{label_order}
use Rattle.gn_faults.specs.declared.fault.Fault.{Fault}
use Rattle.gn_dependencies.specs.Lists.{has}
use Rattle.gn_graph_faults.specs.Faults.{Facts, HasFault, Finding, told_of, finding_order, AreFaults}
use Rattle.gn_graph_faults.specs.Least.{IsFirstFault}

-- the order of faults of several targets: by target in label order, then as the faults of one target go
abbrev pub fault_order : List ℕ → Label → Finding → Label → Finding → Ordering
fault_order default t f u h = ordering_then (label_order default t u) (finding_order default f h)

-- a fault of one of these targets, before which none of them has another
pub record IsLeastOf (g : Facts) (ts : List Label) (fault : Fault) : Type 0 where
  pub target : Label
  pub finding : Finding
  pub is : fault ≡ told_of g target finding
  pub inside : has ts target ≡ true
  pub holds : HasFault g target finding.code finding.others
  pub least : (q : Label) (f : Finding) → has ts q ≡ true → HasFault g q f.code f.others → is_lt (fault_order g.default q f target finding) ≡ false

-- one list of faults is told of a target
abbrev pub ThereIsOneList : Type 0
ThereIsOneList = (g : Facts) (t : Label) (xs ys : List Fault) → AreFaults g t xs → AreFaults g t ys → xs ≡ ys

-- the first fault of the first target that has one is the least of all, where the targets stand in label order
abbrev pub FirstIsLeast : Type 0
FirstIsLeast = (g : Facts) (ts : List Label) (fault : Fault) → IsStrictlySortedBy (label_order g.default) ts → IsFirstFault g ts fault → IsLeastOf g ts fault
