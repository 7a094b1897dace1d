-- What holds of what comes along dependencies as functions: they are just what is said of it, and code may compute them from what dependencies have.
use Rattle.std.specs.Prelude.{◌≡◌, ◌↔◌, ◌⊎◌, ℕ, List, ◌++◌, None, true}
use Rattle.std.specs.List.{flat_map}
use Rattle.std.specs.List.Sorted.{IsStrictlySortedBy}
use Rattle.gn_labels.specs.declared.label.Label.{Label}
use Rattle.gn_labels.specs.Labels.{label_order}
use Rattle.gn_dependencies.specs.Lists.{has}
use Rattle.gn_dependencies.specs.Shape.{Shape, Path, near, all_deps, end_from}
use Rattle.gn_dependencies.specs.Cycles.{IsPath, OnlyThese}
use Rattle.gn_dependencies.specs.Inherited.{Walked, IsInherited}
use Rattle.gn_dependencies.specs.Laws.{Reached}
use Rattle.gn_graph_faults.specs.Faults.{Facts}
use Rattle.gn_graph_faults.specs.Order.{AreInOrder}
use Rattle.gn_graph_meant.specs.Computed.{in_order, least_fault_in}
use Rattle.gn_resolved_meant.specs.Along.{EndsIn}
use Rattle.gn_resolved_meant.specs.Reached.{reached_in, is_hard, hard_of, hard_in}
use Rattle.gn_resolved_meant.specs.Inherited.{walked_in, inherited_in}

-- Configurations

-- the function gives a list of which this is said, where the target reaches no cycle
abbrev pub Settles : (List Label → Shape → Label → List Label) → (Shape → Label → List Label → Type 0) → Type 0
Settles list says = (all : List Label) (g : Shape) (t : Label) → EndsIn all g t → says g t (list all g t)

-- and each list of which it is said is the one that the function gives, where only these labels have dependencies
abbrev pub IsTheOne : (List Label → Shape → Label → List Label) → (Shape → Label → List Label → Type 0) → Type 0
IsTheOne list says = (all : List Label) (g : Shape) → OnlyThese g all → (t : Label) (xs : List Label) → says g t xs → xs ≡ list all g t

-- Lists in label order

-- a list in strict label order is determined by its members
abbrev pub MembersDecide : Type 0
MembersDecide = (default : List ℕ) (xs ys : List Label) → IsStrictlySortedBy (label_order default) xs → IsStrictlySortedBy (label_order default) ys
    → ((q : Label) → (has xs q ≡ true) ↔ (has ys q ≡ true)) → xs ≡ ys

-- so the labels of a list in label order, each once, are just one list
abbrev pub PutsInOrder : Type 0
PutsInOrder = (default : List ℕ) (xs : List Label) → AreInOrder default xs (in_order (label_order default) xs)

abbrev pub IsInOrder : Type 0
IsInOrder = (default : List ℕ) (xs ys : List Label) → AreInOrder default xs ys → ys ≡ in_order (label_order default) xs

-- What is reached

-- dependencies lead to q from one of the labels, or it is one of them
abbrev pub IsReachedFrom : Shape → List Label → Label → Type 0
IsReachedFrom g ts q = (t : Label) × (has ts t ≡ true) × Reached g t q

-- a list has the dependencies of its labels
abbrev pub IsClosed : Shape → List Label → Type 0
IsClosed g us = (u d : Label) → has us u ≡ true → has (all_deps g u) d ≡ true → has us d ≡ true

-- just the labels that dependencies lead to are reached
abbrev pub ReachesThose : Type 0
ReachesThose = (all : List Label) (default : List ℕ) (g : Shape) → OnlyThese g all → (ts : List Label) (q : Label)
    → (has (reached_in all default g ts) q ≡ true) ↔ IsReachedFrom g ts q

abbrev pub ReachedAreClosed : Type 0
ReachedAreClosed = (all : List Label) (default : List ℕ) (g : Shape) → OnlyThese g all → (ts : List Label) → IsClosed g (reached_in all default g ts)

-- whatever has just these in label order, each once, is the list
abbrev pub AreTheReached : Type 0
AreTheReached = (all : List Label) (default : List ℕ) (g : Shape) → OnlyThese g all → (ts xs : List Label) → IsStrictlySortedBy (label_order default) xs
    → ((q : Label) → (has xs q ≡ true) ↔ IsReachedFrom g ts q) → xs ≡ reached_in all default g ts

-- where no target of a closed list has a fault, each reaches no cycle
abbrev pub FaultlessEnd : Type 0
FaultlessEnd = (all : List Label) (facts : Facts) → OnlyThese facts.shape all → (us : List Label) → IsClosed facts.shape us
    → least_fault_in all facts us ≡ None → (u : Label) → has us u ≡ true → EndsIn all facts.shape u

-- What is done before objects are built

-- a path of public and private dependencies leads from t to q
abbrev pub LeadsTo : Shape → Label → Label → Type 0
LeadsTo g t q = (p : Path) × IsPath (near g) t p × (end_from t p ≡ q)

abbrev pub HardAreLedTo : Type 0
HardAreLedTo = (all : List Label) (default : List ℕ) (g : Shape) → OnlyThese g all → (t q : Label)
    → (has (hard_in all default g t) q ≡ true) ↔ ((is_hard (g.kind q) ≡ true) × LeadsTo g t q)

-- the same joined of what dependencies have: they themselves where they are of these kinds, and theirs
abbrev pub hard_from : Shape → (Label → List Label) → Label → List Label
hard_from g hard t = hard_of g (near g t) ++ flat_map hard (near g t)

-- a target has just what its dependencies hand on
abbrev pub HardIsHandedOn : List Label → List ℕ → Shape → Label → Type 0
HardIsHandedOn all default g t = (q : Label)
    → (has (hard_in all default g t) q ≡ true) ↔ ((has (hard_of g (near g t)) q ≡ true) ⊎ ((d : Label) × (has (near g t) d ≡ true) × (has (hard_in all default g d) q ≡ true)))

abbrev pub HardComesAlong : Type 0
HardComesAlong = (all : List Label) (default : List ℕ) (g : Shape) → OnlyThese g all → (t : Label) → HardIsHandedOn all default g t

abbrev pub HardComesWithin : Type 0
HardComesWithin = (all : List Label) (default : List ℕ) (g : Shape) (t : Label) → EndsIn all g t → HardIsHandedOn all default g t

-- so the list is what is joined of them, in label order and each once
abbrev pub HardIsJoined : Type 0
HardIsJoined = (all : List Label) (default : List ℕ) (g : Shape) → OnlyThese g all → (t : Label)
    → hard_in all default g t ≡ in_order (label_order default) (hard_from g (hard_in all default g) t)

-- whatever has just these in label order, each once, is the list
abbrev pub AreTheHard : Type 0
AreTheHard = (all : List Label) (default : List ℕ) (g : Shape) → OnlyThese g all → (t : Label) (xs : List Label)
    → AreInOrder default (hard_from g (hard_in all default g) t) xs → xs ≡ hard_in all default g t

-- Inherited libraries

-- just the targets that a walk meets are walked
abbrev pub WalksThose : Type 0
WalksThose = (all : List Label) (g : Shape) (t : Label) → EndsIn all g t → (q : Label) → (has (walked_in all g t) q ≡ true) ↔ Walked g t q

-- the libraries are those that a target inherits that reaches no cycle, and no others are
abbrev pub Inherits : Type 0
Inherits = (all : List Label) (default : List ℕ) (g : Shape) (t : Label) → EndsIn all g t → IsInherited default g t (inherited_in all default g t)

abbrev pub AreTheInherited : Type 0
AreTheInherited = (all : List Label) (default : List ℕ) (g : Shape) (t : Label) → EndsIn all g t → (ls : List Label) → IsInherited default g t ls
    → ls ≡ inherited_in all default g t
