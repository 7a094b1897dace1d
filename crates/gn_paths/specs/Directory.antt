-- Directories: paths without a final slash, the directory of a file, and what stands below a directory.
use Rattle.std.specs.Prelude.{ℕ, Bool, true, false, List, [], ◌∷◌, ◌++◌, ◌&&◌, ◌||◌, ◌≡◌, not, nat_eq, Result, Ok, Err, if◌then◌else◌}
use Rattle.std.specs.List.{filter, list_all, starts_with}
use Rattle.std.specs.Str.{is_utf8, bytes_eq}
use Rattle.gn_paths.specs.declared.error.PathError.{PathError}
use Rattle.gn_paths.specs.Components.{slash, two_slashes, two_dots, HasNoSlash, top_of, components, spelled, is_source, ends_in_slash, without_final_slashes, up_to_last_slash}
use Rattle.gn_paths.specs.Normal.{is_path_byte}
use Rattle.gn_paths.specs.Resolve.{stays_there}

-- a path as a directory: without its final slashes, which only a root keeps
unfoldable pub as_directory : List ℕ → List ℕ
as_directory path =
    if bytes_eq (without_final_slashes path) [] then top_of path ++ slash else without_final_slashes path

-- whether a path has the form of a directory: it has no final slash, or is `//` or `/`
unfoldable pub is_directory : List ℕ → Bool
is_directory path = bytes_eq path two_slashes || (bytes_eq path slash || not (ends_in_slash path))

-- the directory in which the file at a path stands: what stands up to its last slash, as a directory
unfoldable pub directory_of : List ℕ → List ℕ
directory_of path = as_directory (up_to_last_slash path)

-- a path that was found, and else the source root
abbrev pub or_root : Result (List ℕ) PathError → List ℕ
or_root (Ok path) = path
or_root (Err e) = two_slashes

-- a directory with a final slash
abbrev pub with_slash : List ℕ → List ℕ
with_slash directory = if ends_in_slash directory then directory else directory ++ slash

-- whether a directory stands strictly below another: it isn't the same, stands in the same tree, and begins
-- with the other and a slash
abbrev pub stands_below : List ℕ → List ℕ → Bool
stands_below directory path =
    not (bytes_eq path directory) && ((is_source directory || not (is_source path)) && starts_with nat_eq path (with_slash directory))

-- whether a path stands strictly below a directory, final slashes aside
unfoldable pub is_below : List ℕ → List ℕ → Bool
is_below directory path = stands_below (as_directory directory) (as_directory path)

-- whether a component leads down: it isn't empty, `.` or `..`
abbrev pub leads_down : List ℕ → Bool
leads_down component = not (stays_there component) && not (bytes_eq component two_dots)

-- the directory `name` of an output directory `out`, and below it the one that stands for `directory`: its
-- components that lead down. So `//a/b` gives `//out/name/a/b`, the system directory `/usr` gives
-- `//out/name/usr`, and a root gives `//out/name`
unfoldable pub output_directory : List ℕ → List ℕ → List ℕ → List ℕ
output_directory name out directory =
    spelled (top_of out) (components out ++ name ∷ filter leads_down (components directory)) false

-- a name that leads down, which may stand in a path
pub record IsOutputName (name : List ℕ) : Type 0 where
  pub down : leads_down name ≡ true
  pub no_slash : HasNoSlash name
  pub bytes : list_all is_path_byte name ≡ true
  pub utf8 : is_utf8 name ≡ true

-- the directories of objects and of generated files that stand for a directory below an output directory
abbrev pub obj : List ℕ
obj = 111 ∷ 98 ∷ 106 ∷ []

abbrev pub gen : List ℕ
gen = 103 ∷ 101 ∷ 110 ∷ []

abbrev pub obj_directory_of : List ℕ → List ℕ → List ℕ
obj_directory_of out directory = output_directory obj out directory

abbrev pub gen_directory_of : List ℕ → List ℕ → List ℕ
gen_directory_of out directory = output_directory gen out directory
