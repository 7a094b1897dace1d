-- The name of a target's output, and the files that stand for a target.
use Rattle.std.specs.Prelude.{ℕ, List, [], ◌∷◌, ◌++◌, Option, None, Some, nat_eq, if◌then◌else◌}
use Rattle.std.specs.List.{starts_with}
use Rattle.gn_paths.specs.Directory.{obj_directory_of}
use Rattle.gn_paths.specs.Rebase.{seen_from}
use Rattle.gn_labels.specs.declared.label.Label.{Label}

-- the name of an output, which begins with the prefix of the tool
abbrev pub output_name : List ℕ → List ℕ → List ℕ
output_name prefix name = if starts_with nat_eq name prefix then name else prefix ++ name

-- the extension of an output: the target's behind a dot, nothing for an empty one, and else that of the tool
abbrev pub output_extension : List ℕ → Option (List ℕ) → List ℕ
output_extension default None = default
output_extension default (Some []) = []
output_extension default (Some (b ∷ more)) = 46 ∷ b ∷ more

-- a file of a directory
abbrev pub file_beside : List ℕ → List ℕ → List ℕ → List ℕ
file_beside directory name ending = directory ++ 47 ∷ (name ++ ending)

-- a file that stands for a target, as seen from the build directory
abbrev pub target_file : List ℕ → List ℕ → Label → List ℕ → List ℕ
target_file build out label ending = file_beside (seen_from build (obj_directory_of out label.dir)) label.name ending
