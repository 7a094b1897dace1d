-- The error of loading as a function of the meanings of all keys: each unit that is reached and isn't done has its own fault, or that to which its
-- imports lead; the least of these.
use Rattle.std.specs.Prelude.{ℕ, suc, length, List, [], ◌∷◌, Option, Some, None, Bool, if◌then◌else◌, is_some}
use Rattle.std.specs.List.{flat_map}
use Rattle.gn_faults.specs.declared.fault.Fault.{Fault}
use Rattle.gn_faults.specs.Order.{is_before}
use Rattle.gn_imports.specs.Rounds.{Project, final}
use Rattle.gn_imports.specs.Causes.{link, led, cause}
use Rattle.gn_runs.specs.Runs.{End, ended, wrong, spoiled, needs}
use Rattle.gn_closure.specs.Reach.{Unit_key}
use Rattle.gn_core.specs.Keys.{Leaving, UnitLeft, layer_of, units}
use Rattle.gn_core.specs.Worlds.{World, project, all_meanings}
use Rattle.gn_core.specs.Counted.{units_reached, exceeds_limits}
use Rattle.gn_projects.specs.Errors.{too_large, fault_toolchain}

-- links lead from an import further than there are files: they go round a cycle
abbrev pub goes_round : Project → List ℕ → Bool
goes_round project path = is_some (led (link project) (suc (length project.paths)) path)

-- the fault to which an import leads that can't be used: a cycle is one of the toolchain under which it is imported
abbrev pub cause_under : List ℕ → Project → List ℕ → Fault
cause_under toolchain project path = if goes_round project path then record (cause project path) { toolchain = toolchain } else cause project path

-- the fault of a unit, by its end
abbrev pub faults_at : List ℕ → Project → End (Leaving UnitLeft) → List Fault
faults_at toolchain project (ended left) = []
faults_at toolchain project (wrong fault) = fault ∷ []
faults_at toolchain project (spoiled path place) = cause_under toolchain project path ∷ []
faults_at toolchain project (needs question place) = []

abbrev pub faults_of_unit : World → Unit_key → List Fault
faults_of_unit w k =
    faults_at (fault_toolchain (units (all_meanings w)) (layer_of k)) (project w (all_meanings w) (layer_of k))
    (w.unit_run k (all_meanings w) (final (project w (all_meanings w) (layer_of k)))).end

-- those of all units that are reached
unfoldable pub faults_of : World → List Fault
faults_of w = flat_map (faults_of_unit w) (units_reached w)

-- the first of these in the order of faults
abbrev pub first_of : Fault → Option Fault → Option Fault
first_of fault None = Some fault
first_of fault (Some other) = if is_before other fault then Some other else Some fault

abbrev pub least_of : List Fault → Option Fault
least_of [] = None
least_of (fault ∷ faults) = first_of fault (least_of faults)

-- the error of loading, if it has one, where the setup knows these files
unfoldable pub loading_error : World → (List ℕ → Bool) → Option Fault
loading_error w known = if exceeds_limits w known then Some too_large else least_of (faults_of w)
