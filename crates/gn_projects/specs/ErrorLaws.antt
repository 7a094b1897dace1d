-- What holds of the errors of loading.
use Rattle.std.specs.Prelude.{◌≡◌, ◌↔◌, ℕ, List, Some, None, Bool}
use Rattle.gn_faults.specs.declared.fault.Fault.{Fault}
use Rattle.gn_closure.specs.Closure.{In}
use Rattle.gn_closure.specs.Least.{IsTooLarge}
use Rattle.gn_closure.specs.Reach.{Unit_key, Done, Is_reached, Holds}
use Rattle.gn_core.specs.Keys.{units}
use Rattle.gn_core.specs.Worlds.{World, all_meanings}
use Rattle.gn_core.specs.Layered.{IsLayered}
use Rattle.gn_core.specs.Machine.{State, Event, replay, HasLoaded, Exceeds, FiledExceeds}
use Rattle.gn_core.specs.Statements.{IsLoadingRun}
use Rattle.gn_projects.specs.Errors.{IsFaultOf, IsErrorOf}
use Rattle.gn_projects.specs.Computed.{faults_of, loading_error}

-- the faults of the units that are reached are all there are
abbrev pub FaultsAreFound : Type 0
FaultsAreFound = (w : World) → IsLayered w → (IsTooLarge w.home (units (all_meanings w)) → ⊥) → (fault : Fault) → In (faults_of w) fault ↔ IsFaultOf w (all_meanings w) fault

-- the error that is computed is the error
abbrev pub ErrorIsFound : Type 0
ErrorIsFound = (w : World) → IsLayered w → (known : List ℕ → Bool) (fault : Fault)
    → (loading_error w known ≡ Some fault) ↔ IsErrorOf w (all_meanings w) (Exceeds w known (all_meanings w)) fault

-- where there is none each unit that is reached is done
abbrev pub NoErrorIsDone : Type 0
NoErrorIsDone = (w : World) → IsLayered w → (known : List ℕ → Bool) → loading_error w known ≡ None
    → (k : Unit_key) → Holds w.home (units (all_meanings w)) (Is_reached k) → (d : Done) × (units (all_meanings w) k ≡ Some (Some d))

-- when all is loaded, in whatever order, what is filed has the faults of the tree, and its error
abbrev pub QuietHasFaults : Type 0
QuietHasFaults = (w : World) (known : List ℕ → Bool) (s : State) (es : List Event) → IsLoadingRun w known s es → HasLoaded w (replay s es)
    → (fault : Fault) → IsFaultOf w (replay s es).filed fault ↔ IsFaultOf w (all_meanings w) fault

abbrev pub QuietHasError : Type 0
QuietHasError = (w : World) (known : List ℕ → Bool) (s : State) (es : List Event) → IsLoadingRun w known s es → HasLoaded w (replay s es)
    → (fault : Fault) → (loading_error w known ≡ Some fault) ↔ IsErrorOf w (replay s es).filed (FiledExceeds w known (replay s es).filed) fault
