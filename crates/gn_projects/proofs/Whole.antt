-- What follows for whole builds, and where build files and toolchains are found.
use Rattle.std.proofs.Common.{◌≡◌, ◌≢◌, ℕ, List, Option, Some, None, refl, inl, inr, Bool}
use Rattle.gn_runs.specs.Runs.{Content, has_bytes, is_absent, is_too_big, Answers}
use Rattle.gn_environment.specs.Environment.{new_environment}
use Rattle.gn_executions.specs.Base.{BaseState}
use Rattle.gn_executions.specs.Found.{found_load_runs, found_load_execution}
use Rattle.gn_executions.specs.Setups.{secondary_tree_runs}
use Rattle.gn_executions.specs.Units.{build_file_of, tree_runs, load_runs, load_execution}
use Rattle.gn_core.specs.Keys.{Import, Unit_of}
use Rattle.gn_core.specs.Machine.{State, Event}
use Rattle.gn_core.specs.Statements.{IsLoadingRun}
use Rattle.gn_core.proofs.Based.{unit_layer, import_layer}
use Rattle.gn_core.proofs.Lowered.{filed_are_meanings}
use Rattle.gn_core.proofs.Quiet.{run_both, quiet_agree}
use Rattle.gn_projects.specs.Files.{Files}
use Rattle.gn_projects.specs.Worlds.{world_of}
use Rattle.gn_projects.specs.Laws.{IsLoading, FiledIsMeant, OrderDoesNotMatter, ClaimedHaveLayer, FilesAreFound, LackingFilesAreWrong}
use Rattle.gn_projects.proofs.Layered.{whole_builds_are_layered}

loading_run : (files : Files) (known : List ℕ → Bool) (s : State) (es : List Event) → IsLoading files known s es → IsLoadingRun (world_of files) known s es
loading_run files known s es is = record { layered = whole_builds_are_layered files; opening = is.opening; runs = is.runs; over = is.over }

pub filed_is_meant : FiledIsMeant
filed_is_meant files known s es is k v h = filed_are_meanings (world_of files) known s es (loading_run files known s es is) k v h

pub order_does_not_matter : OrderDoesNotMatter
order_does_not_matter files known s es fs a b quiet_a quiet_b k =
    quiet_agree (world_of files) known s es fs (loading_run files known s es a) (loading_run files known s fs b) quiet_a quiet_b k

pub claimed_have_layer : ClaimedHaveLayer
claimed_have_layer w known s es is =
    let bases = (run_both w is.layered known s is.opening es is.runs is.over).bases in
    (λ k seat h. unit_layer w _ k (bases.claimed (Unit_of k) seat h), λ l path seat h. import_layer w _ l path (bases.claimed (Import l path) seat h))

-- Where build files are found

found_alone : (base : BaseState) (dir toolchain : List ℕ) (a : Answers) → base.secondary ≡ None → found_load_execution base dir toolchain a ≡ load_execution base dir toolchain a
unfolding found_load_runs load_runs secondary_tree_runs tree_runs
found_alone base dir toolchain a h = rw h refl

found_bytes : (base : BaseState) (dir toolchain : List ℕ) (a : Answers) (bytes tree : List ℕ) → base.secondary ≡ Some tree → a.contents (build_file_of dir) ≡ Some (has_bytes bytes)
    → found_load_execution base dir toolchain a ≡ load_execution base dir toolchain a
unfolding found_load_runs load_runs secondary_tree_runs tree_runs new_environment
found_bytes base dir toolchain a bytes tree s h = rw s (rw h refl)

found_big : (base : BaseState) (dir toolchain : List ℕ) (a : Answers) (tree : List ℕ) → base.secondary ≡ Some tree → a.contents (build_file_of dir) ≡ Some is_too_big
    → found_load_execution base dir toolchain a ≡ load_execution base dir toolchain a
unfolding found_load_runs load_runs secondary_tree_runs tree_runs new_environment
found_big base dir toolchain a tree s h = rw s (rw h refl)

found_first : (base : BaseState) (dir toolchain : List ℕ) (a : Answers) (content : Content) (other : Option (List ℕ)) → base.secondary ≡ other → content ≢ is_absent → a.contents (build_file_of dir) ≡ Some content
    → found_load_execution base dir toolchain a ≡ load_execution base dir toolchain a
found_first base dir toolchain a content None s no_file h = found_alone base dir toolchain a s
found_first base dir toolchain a is_absent (Some tree) s no_file h = absurd (no_file refl)
found_first base dir toolchain a (has_bytes bytes) (Some tree) s no_file h = found_bytes base dir toolchain a bytes tree s h
found_first base dir toolchain a is_too_big (Some tree) s no_file h = found_big base dir toolchain a tree s h

pub files_are_found : FilesAreFound
files_are_found base dir toolchain a (inl s) = found_alone base dir toolchain a s
files_are_found base dir toolchain a (inr (content, some_file, h)) = found_first base dir toolchain a content base.secondary refl some_file h

pub lacking_files_are_wrong : LackingFilesAreWrong
unfolding found_load_runs secondary_tree_runs new_environment
lacking_files_are_wrong base dir toolchain tree a s h g = rw s (rw h (rw g refl))
