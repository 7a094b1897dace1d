-- Where a call stands, and the directories of outputs there.
use Rattle.std.specs.Prelude.{ℕ, List, [], ◌++◌, Option, Some, None, Result, Ok, Err, if◌then◌else◌}
use Rattle.std.specs.Str.{bytes_eq}
use Rattle.gn_faults.specs.declared.code.Code.{Code}
use Rattle.gn_labels.specs.declared.named.Named.{Named}
use Rattle.gn_labels.specs.Toolchains.{toolchain_named}
use Rattle.gn_paths.specs.declared.error.PathFault.{PathFault}
use Rattle.gn_paths.specs.Components.{slash, two_slashes, is_system}
use Rattle.gn_paths.specs.Directory.{output_directory}
use Rattle.gn_paths.specs.Resolve.{path_meant}
use Rattle.gn_calls_path.specs.Found.{path_code, coded}
use Rattle.gn_calls_path.specs.declared.place.Where.{Where}

-- the path of a text, and the code of what keeps it from being one
abbrev pub path_at : List ℕ → List ℕ → Result (List ℕ) Code
path_at directory text = coded path_code (path_meant directory text)

-- a directory that was found, and else another
abbrev pub or_directory : List ℕ → Result (List ℕ) PathFault → List ℕ
or_directory other (Ok directory) = directory
or_directory other (Err fault) = other

-- the directory of this name in the build directory, which has no name as long as no toolchain is known
abbrev pub out_named : List ℕ → Option Named → List ℕ
out_named build (Some part) = or_directory build (path_meant build part.name)
out_named build None = build

-- `root_out_dir` of a toolchain, in this build directory and under this default toolchain: the build directory for the default
-- one, and in it the directory of the toolchain's name for another
unfoldable pub out_directory : (build default_toolchain toolchain : List ℕ) → List ℕ
out_directory build default_toolchain toolchain =
    if bytes_eq toolchain default_toolchain then build else out_named build (toolchain_named toolchain)

-- that of a toolchain where a call stands
abbrev pub root_out_of : Where → List ℕ → List ℕ
root_out_of w toolchain = out_directory w.build w.default_toolchain toolchain

-- that of the current toolchain
abbrev pub root_out : Where → List ℕ
root_out w = root_out_of w w.toolchain

-- the directory of the source tree in whose place outputs stand: the source root for a directory of the system
abbrev pub source_part : List ℕ → List ℕ
source_part directory = if is_system directory then two_slashes else directory

-- what stands behind it for a directory of the system: its text as it stands, and nothing for `/`
abbrev pub system_part : List ℕ → List ℕ
system_part directory = if is_system directory then (if bytes_eq directory slash then [] else directory) else []

-- where the outputs of a directory stand in the directory `name`, `obj` or `gen`, of an output directory: `//out/obj/a` for `//a`. The
-- text of a directory of the system stands there as it is: `//out/obj/usr/..` for `/usr/..`, and `//out/obj` for `/`
abbrev pub directory_for_outputs : (name out directory : List ℕ) → List ℕ
directory_for_outputs name out directory = output_directory name out (source_part directory) ++ system_part directory
