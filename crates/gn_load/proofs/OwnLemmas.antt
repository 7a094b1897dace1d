-- The work on a build file needs the content of its own file first.
use Rattle.std.proofs.Common.{◌≡◌, ℕ, List, [], ◌∷◌, Option, Some, None, refl, sym, subst}
use Rattle.gn_runs.specs.Runs.{content_of}
use Rattle.gn_environment.specs.Environment.{new_environment}
use Rattle.gn_executions.specs.Base.{BaseState}
use Rattle.gn_executions.specs.Found.{found_load_runs}
use Rattle.gn_executions.specs.Setups.{secondary_tree_runs}
use Rattle.gn_executions.specs.Units.{build_file_of, own_place}
use Rattle.gn_closure.specs.Reach.{Load}
use Rattle.gn_core.specs.Keys.{Read, Unit_of, Filed}
use Rattle.gn_builds.specs.Working.{IsInNeed}
use Rattle.gn_load.specs.Own.{IsUnfiledAt, NeedsFirst, NeedsOwn}

-- over what is filed, whatever that is, the work on a build file begins with the content of its file
pub own_needed : (start : BaseState) (filed : Filed) (directory toolchain : List ℕ) → filed (Read (build_file_of directory)) ≡ None
    → IsInNeed start filed (Unit_of (Load directory toolchain)) (Read (build_file_of directory)) (own_place (build_file_of directory)) (content_of (build_file_of directory) ∷ [])
unfolding found_load_runs secondary_tree_runs new_environment
own_needed start filed directory toolchain none = (content_of (build_file_of directory), refl, rw none refl, rw none refl)

pub needs_own : (filed : Filed) (directory toolchain : List ℕ) (found : Option (List ℕ)) → IsUnfiledAt filed (build_file_of directory) found → NeedsOwn filed (Unit_of (Load directory toolchain)) found
needs_own filed directory toolchain None is = tt
needs_own filed directory toolchain (Some path) is = subst (NeedsFirst filed (Unit_of (Load directory toolchain))) (sym is.0) (λ start. own_needed start filed directory toolchain is.1)
