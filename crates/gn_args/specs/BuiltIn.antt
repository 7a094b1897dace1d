-- The names of the built-in variables.
use Rattle.std.specs.Prelude.{ℕ, List, [], ◌∷◌, codes}

-- the variables that every file sees: those of the host, of the toolchain that is current and of the target, and the directories of the build
unfoldable pub built_in_names : List (List ℕ)
built_in_names =
    codes "host_os" ∷ codes "host_cpu" ∷ codes "current_os" ∷ codes "current_cpu" ∷ codes "target_os" ∷ codes "target_cpu"
    ∷ codes "current_toolchain" ∷ codes "default_toolchain"
    ∷ codes "root_build_dir" ∷ codes "root_out_dir" ∷ codes "root_gen_dir" ∷ codes "target_out_dir" ∷ codes "target_gen_dir" ∷ []
