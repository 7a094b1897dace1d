-- The files of a build that was loaded, as its readers give them.
use Rattle.std.specs.Prelude.{ℕ, List, [], ◌∷◌, map, Option, Some, None}
use Rattle.std.specs.Borrow.{Bor}
use Rattle.gn_projects.specs.Loaded.{FilesWritten}
use Rattle.gn_built.specs.declared.files.WrittenFiles.{WrittenFiles}

-- the paths that are lent
abbrev pub paths_lent : List (Bor (List ℕ)) → List (List ℕ)
paths_lent paths = map (λ (path : Bor (List ℕ)). path.now) paths

-- one path, or none, as a list
abbrev pub path_list : Option (Bor (List ℕ)) → List (List ℕ)
path_list None = []
path_list (Some path) = path.now ∷ []

-- the files that an execution has written, and those of several
abbrev pub written_of : WrittenFiles → FilesWritten
written_of w = record { toolchain = w.toolchain.now; files = w.files.now }

abbrev pub files_of : List WrittenFiles → List FilesWritten
files_of written = map written_of written
