-- What loading a build comes to.
use Rattle.std.specs.Prelude.{◌≡◌, ℕ, ◌≤◌, List, Result, Ok, Err}
use Rattle.gn_outside.specs.Tree.{Tree}
use Rattle.gn_outside.specs.States.{SourceState}
use Rattle.gn_executions.specs.Base.{BaseState}
use Rattle.gn_core.specs.Worlds.{World}
use Rattle.gn_projects.specs.Files.{files_of}
use Rattle.gn_projects.specs.Worlds.{world_of}
use Rattle.gn_projects.specs.Loaded.{Build, Failure, IsCount, IsWithin, files_reached, loaded}
use Rattle.gn_builds.specs.Driving.{FailsAt}
use Rattle.gn_built.specs.Built.{build_of}
use Rattle.gn_load.specs.declared.plain.LoadEnd.{LoadEnd}
use Rattle.gn_load.specs.declared.plain.LoadEnd.TheVariants as end

-- no more build files were claimed than the meaning of a build has
abbrev pub IsWithinMeant : World → Result Build Failure → ℕ → Type 0
IsWithinMeant w (Ok build) units = units ≤ files_reached w
IsWithinMeant w (Err failure) units = IsWithin units failure.units

-- the end of loading is what the tree's build means, unless a read has failed or memory was wanting
abbrev pub IsEndOf : BaseState → List (List ℕ) → Tree → LoadEnd → ℕ → Type 0
IsEndOf start known tree (end.Built built) units =
    (loaded known (files_of start tree) ≡ Ok (build_of built)) × (units ≡ files_reached (world_of (files_of start tree)))
IsEndOf start known tree (end.Wrong fault) units =
    (failure : Failure) × (loaded known (files_of start tree) ≡ Err failure) × (failure.fault ≡ fault) × IsCount units failure.units
IsEndOf start known tree (end.Failed path) units = IsWithinMeant (world_of (files_of start tree)) (loaded known (files_of start tree)) units
IsEndOf start known tree end.Memory units = IsWithinMeant (world_of (files_of start tree)) (loaded known (files_of start tree)) units

-- `Failed` comes exactly where the count of faults rose, and its read is the last one
abbrev pub CountsEnd : SourceState → SourceState → LoadEnd → Type 0
CountsEnd before after (end.Built built) = after.faults ≡ before.faults
CountsEnd before after (end.Wrong fault) = after.faults ≡ before.faults
CountsEnd before after (end.Failed path) = FailsAt path before after
CountsEnd before after end.Memory = after.faults ≡ before.faults
