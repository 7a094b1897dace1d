-- What all comes to that was loaded: the error of the build, or its parts.
use Rattle.std.specs.Prelude.{◌≡◌, ◌⊎◌, ℕ, List, [], ◌∷◌, ◌++◌, take, Option, Some, None}
use Rattle.std.specs.List.{flat_map}
use Rattle.gn_faults.specs.declared.fault.Fault.{Fault}
use Rattle.gn_runs.specs.Runs.{End}
use Rattle.gn_closure.specs.Reach.{Unit_key}
use Rattle.gn_core.specs.Keys.{Layer, Key, Unit_of, Leaving, UnitLeft, layer_of}
use Rattle.gn_book.specs.Keys.{key_of}
use Rattle.gn_book.specs.Logs.{Log}
use Rattle.gn_items.specs.declared.key.Key.{Key as Named}
use Rattle.gn_projects.specs.Files.{Files}
use Rattle.gn_projects.specs.Worlds.{world_of}
use Rattle.gn_projects.specs.Errors.{too_large}
use Rattle.gn_projects.specs.Computed.{faults_at}
use Rattle.gn_projects.specs.Loaded.{Build}
use Rattle.gn_builds.specs.Rest.{IsAtRest, HasLargeImport, faults_of_key, IsFirstOf, AreInOrder, AreGenerated, default_filed, build_left}
use Rattle.gn_builds.specs.Causes.{shown_toolchain, layer_project}
use Rattle.gn_judging.specs.declared.judging.Parts.{Parts}
use Rattle.gn_judging.specs.declared.judging.Judged.{Judged}
use Rattle.gn_judging.specs.declared.judging.Judged.TheVariants.{Wrong, Right}

-- one fault, or none, as a list
abbrev pub fault_list : Option Fault → List Fault
fault_list None = []
fault_list (Some fault) = fault ∷ []

-- the fault of a unit of a layer which has ended so
abbrev pub IsFaultAt : Log → Layer → End (Leaving UnitLeft) → Option Fault → Type 0
IsFaultAt l layer end fault = (files : Files) → IsAtRest files l → faults_at (shown_toolchain l layer) (layer_project files layer) end ≡ fault_list fault

-- the fault of the unit of a key, if there is one
abbrev pub IsFaultOf : Log → Key → Option Fault → Type 0
IsFaultOf l k fault = (files : Files) → IsAtRest files l → faults_of_key (world_of files) k ≡ fault_list fault

-- the key is that of a unit of this layer
abbrev pub IsUnitOf : Layer → Key → Type 0
IsUnitOf layer k = (unit : Unit_key) × (k ≡ Unit_of unit) × (layer_of unit ≡ layer)

-- the first of the faults of the units with the first numbers
abbrev pub IsFirstBelow : Log → ℕ → Option Fault → Type 0
IsFirstBelow l end fault = (files : Files) → IsAtRest files l → IsFirstOf (flat_map (faults_of_key (world_of files)) (take end l.keys)) fault

-- the first of all faults
abbrev pub IsFirstFault : Log → Option Fault → Type 0
IsFirstFault l fault = (files : Files) → IsAtRest files l → IsFirstOf (flat_map (faults_of_key (world_of files)) l.keys) fault

-- the first of two faults is the first of those of which they are the first ones
abbrev pub IsFirst : Option Fault → Option Fault → Option Fault → Type 0
IsFirst first fault result = (faults others : List Fault) → IsFirstOf faults first → IsFirstOf others fault → IsFirstOf (faults ++ others) result

-- what was loaded has these parts: the default toolchain, the numbers of the executions, and the labels that are generated, in their orders
pub record AreParts (l : Log) (parts : Parts) : Type 0 where
  pub default : parts.default ≡ default_filed l
  pub numbers : AreInOrder (default_filed l) l parts.numbers.items
  pub labels : AreGenerated (default_filed l) l parts.labels.items

-- what a build has left that has these parts
abbrev pub build_by : Log → Parts → Build
build_by l parts = build_left parts.default l parts.numbers.items parts.labels.items

-- what is judged of a build none of whose imports needs too many
abbrev pub IsJudgedSmall : Log → Judged → Type 0
IsJudgedSmall l (Wrong fault) = IsFirstFault l (Some fault)
IsJudgedSmall l (Right parts) = IsFirstFault l None × AreParts l parts

-- a build is too large where an import needs too many others; else its error is the first fault of its units, and where there is none it has these parts
abbrev pub IsJudged : Log → Judged → Type 0
IsJudged l judged = (HasLargeImport l × (judged ≡ Wrong too_large)) ⊎ ((HasLargeImport l → ⊥) × IsJudgedSmall l judged)
