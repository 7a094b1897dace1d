-- The errors of loading, over answers: those of the units that are reached and of the imports that these need, and the least of them.
use Rattle.std.specs.Prelude.{◌≡◌, ℕ, List, [], Option, Some, None, false, if◌then◌else◌}
use Rattle.std.specs.Str.{bytes_eq}
use Rattle.gn_paths.specs.declared.place.Place.{Place}
use Rattle.gn_definitions.specs.Imported.{ImportState}
use Rattle.gn_faults.specs.declared.code.Code.TheVariants as code
use Rattle.gn_faults.specs.declared.fault.Fault.{Fault}
use Rattle.gn_faults.specs.declared.stage.Stage.TheVariants.{Loading}
use Rattle.gn_faults.specs.Order.{is_before as stands_before}
use Rattle.gn_imports.specs.Causes.{Link, link_of, is_before, cycle_fault, led}
use Rattle.gn_runs.specs.Runs.{wrong, Run}
use Rattle.gn_closure.specs.Reach.{Unit_key, Setup, Done, Units, Is_reached, Holds}
use Rattle.gn_core.specs.Keys.{Layer, early, usual, Import, Unit_of, Answer, import_is, no_value, unit_is, Filed, Leaving, UnitLeft, seen_end, units}
use Rattle.gn_core.specs.Worlds.{World}
use Rattle.gn_core.specs.Machine.{IsNeeded}

-- the error of a build that is larger than a limit
abbrev pub too_large : Fault
too_large = record { stage = Loading; place = None; toolchain = []; code = code.TooLarge; detail = [] }

-- Words on the links between imports

-- the import to which the answer of an import leads that can't be used
abbrev pub link_in : Answer → Option Link
link_in (import_is run) = link_of (seen_end run.end)
link_in (no_value path place asked) = Some (record { path = path; place = place })
link_in _ = None

-- the import to which the answer of an import leads that can't be used
abbrev pub link_filed : Option Answer → Option Link
link_filed None = None
link_filed (Some v) = link_in v

abbrev pub link_at : Filed → Layer → List ℕ → Option Link
link_at a l path = link_filed (a (Import l path))

-- links lead from an import to another, or it is that one
abbrev pub Leads : (List ℕ → Option Link) → List ℕ → List ℕ → Type 0
Leads next path q = (n : ℕ) × (led next n path ≡ Some q)

-- links lead from an import to a call, or it makes the call itself
abbrev pub LeadsToCall : (List ℕ → Option Link) → List ℕ → Link → Type 0
LeadsToCall next path call = (q : List ℕ) × Leads next path q × (next q ≡ Some call)

-- the link of an import leads back to it
abbrev pub IsOnCycle : (List ℕ → Option Link) → List ℕ → Type 0
IsOnCycle next path = (call : Link) × (next path ≡ Some call) × Leads next call.path path

-- the least place of the calls to which links lead from an import: on a cycle these are all calls of the cycle
pub record IsLeastPlace (next : List ℕ → Option Link) (path : List ℕ) (place : Place) : Type 0 where
  pub found : (call : Link) × LeadsToCall next path call × (call.place ≡ place)
  pub least : (call : Link) → LeadsToCall next path call → is_before call.place place ≡ false

-- Toolchains of faults

-- the default toolchain, where it is known
abbrev pub default_told : Option (Option Done) → List ℕ
default_told None = []
default_told (Some None) = []
default_told (Some (Some d)) = d.default

-- the toolchain of a layer, as its faults have it: the empty text for the default one
abbrev pub toolchain_shown : List ℕ → List ℕ → List ℕ
toolchain_shown default toolchain = if bytes_eq toolchain default then [] else toolchain

abbrev pub shown_of_layer : List ℕ → Layer → List ℕ
shown_of_layer default (early toolchain) = toolchain_shown default toolchain
shown_of_layer default (usual toolchain) = toolchain_shown default toolchain

abbrev pub fault_toolchain : Units → Layer → List ℕ
fault_toolchain a l = shown_of_layer (default_told (a (Setup []))) l

-- an import cycle at a place, under a toolchain
abbrev pub cycle_under : List ℕ → Place → Fault
cycle_under toolchain place = record (cycle_fault (Some place)) { toolchain = toolchain }

-- The faults of loading

-- that of a wrong unit which is reached, that of a wrong import which reached units need, directly or through others, and for each cycle of such imports
-- one at the least place of the calls on it
pub data IsFaultOf (w : World) (a : Filed) : Fault → Type 0 where
  of_unit : (k : Unit_key) (run : Run (Leaving UnitLeft)) (fault : Fault) → Holds w.home (units a) (Is_reached k)
      → a (Unit_of k) ≡ Some (unit_is run) → run.end ≡ wrong fault → IsFaultOf w a fault
  of_import : (l : Layer) (path : List ℕ) (run : Run (Leaving ImportState)) (fault : Fault) → IsNeeded w a (Import l path)
      → a (Import l path) ≡ Some (import_is run) → run.end ≡ wrong fault → IsFaultOf w a fault
  of_cycle : (l : Layer) (path : List ℕ) (place : Place) (fault : Fault) → IsNeeded w a (Import l path)
      → IsOnCycle (link_at a l) path → IsLeastPlace (link_at a l) path place → fault ≡ cycle_under (fault_toolchain (units a) l) place → IsFaultOf w a fault

-- the least of them
pub record IsLeastFault (w : World) (a : Filed) (fault : Fault) : Type 0 where
  pub found : IsFaultOf w a fault
  pub least : (other : Fault) → IsFaultOf w a other → stands_before other fault ≡ false

-- the error of loading, where `Large` says that the build exceeds a limit: this stands before all others
pub data IsErrorOf (w : World) (a : Filed) (Large : Type 0) : Fault → Type 0 where
  of_limits : (fault : Fault) → Large → fault ≡ too_large → IsErrorOf w a Large fault
  of_files : (fault : Fault) → (Large → ⊥) → IsLeastFault w a fault → IsErrorOf w a Large fault
