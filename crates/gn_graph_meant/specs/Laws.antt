-- What holds of the faults of targets as functions: they are just what is said of them, and nothing else is.
use Rattle.std.specs.Prelude.{◌≡◌, ℕ, List, [], Option, true, false}
use Rattle.gn_labels.specs.declared.label.Label.{Label}
use Rattle.gn_labels.specs.declared.pattern.Pattern.{Pattern}
use Rattle.gn_rows.specs.declared.variable.Variable.{Variable}
use Rattle.gn_faults.specs.declared.fault.Fault.{Fault}
use Rattle.gn_dependencies.specs.Lists.{has}
use Rattle.gn_dependencies.specs.Shape.{Shape}
use Rattle.gn_dependencies.specs.Cycles.{OnlyThese}
use Rattle.gn_cycles.specs.Shortest.{IsShortestPath}
use Rattle.gn_rules.specs.Rules.{IsForbiddenTarget}
use Rattle.gn_graph_faults.specs.Faults.{Facts, AreFaults}
use Rattle.gn_graph_faults.specs.Least.{IsLeastFault}
use Rattle.gn_graph_meant.specs.Ways.{shortest_path_in}
use Rattle.gn_graph_meant.specs.Computed.{forbidden_in, faults_in, least_fault_in}

-- only these labels have dependencies
abbrev pub OnlyFrom : (Label → List Label) → List Label → Type 0
OnlyFrom next all = (t d : Label) → has (next t) d ≡ true → has all t ≡ true

-- where only these have, the shortest path is the shortest
abbrev pub FindsShortest : Type 0
FindsShortest = (all : List Label) (next : Label → List Label) → OnlyFrom next all → (t goal : Label) → IsShortestPath next t goal (shortest_path_in all next t goal)

-- the first target that mustn't be reached is the first
abbrev pub FindsForbidden : Type 0
FindsForbidden = (all : List Label) (default : List ℕ) (g : Shape) (forbidden : Label → List Pattern) → OnlyThese g all → (t : Label)
    → IsForbiddenTarget default g forbidden t (forbidden_in all default g forbidden t)

-- just the faults that a target has are told
abbrev pub TellsFaults : Type 0
TellsFaults = (all : List Label) (g : Facts) → OnlyThese g.shape all → (t : Label) → AreFaults g t (faults_in all g t)

-- of several targets the first fault of the first that has one is told
abbrev pub TellsLeast : Type 0
TellsLeast = (all : List Label) (g : Facts) → OnlyThese g.shape all → (ts : List Label) → IsLeastFault g ts (least_fault_in all g ts)

-- and there is one such fault
abbrev pub ThereIsOneFault : Type 0
ThereIsOneFault = (g : Facts) (ts : List Label) (a b : Option Fault) → IsLeastFault g ts a → IsLeastFault g ts b → a ≡ b

-- so whatever is told as the least fault is just that
abbrev pub IsTheLeast : Type 0
IsTheLeast = (all : List Label) (g : Facts) → OnlyThese g.shape all → (ts : List Label) (told : Option Fault) → IsLeastFault g ts told → told ≡ least_fault_in all g ts

-- and the value is the same for each list of labels that will do
abbrev pub ListsAgree : Type 0
ListsAgree = (all other : List Label) (g : Facts) → OnlyThese g.shape all → OnlyThese g.shape other → (ts : List Label) → least_fault_in all g ts ≡ least_fault_in other g ts

-- a list will do where no other label has anything at a variable, as it is with the labels of all items
abbrev pub OthersHaveNothing : Shape → List Label → Type 0
OthersHaveNothing g all = (q : Label) (variable : Variable) → has all q ≡ false → g.lists q variable ≡ []

abbrev pub ItemsAreEnough : Type 0
ItemsAreEnough = (g : Shape) (all : List Label) → OthersHaveNothing g all → OnlyThese g all
