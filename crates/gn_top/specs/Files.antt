-- The files that a build puts.
use Rattle.std.specs.Prelude.{ℕ, List, [], ◌∷◌, ◌++◌, Option, None, Some, map}
use Rattle.std.specs.List.{fold}
use Rattle.gn_outside.specs.States.{PutFile}
use Rattle.gn_out_files.specs.Files.{in_path_order}
use Rattle.gn_values.specs.Tables.{with_names}
use Rattle.gn_items.specs.declared.written.Written.{Written}
use Rattle.gn_projects.specs.Loaded.{FilesWritten, items_of_build}
use Rattle.gn_files.specs.Files.{files_of_build}
use Rattle.gn_top.specs.Texts.{line}
use Rattle.gn_top.specs.Stages.{Request, Build, surroundings_of, arguments_path}

-- the Ninja files of a build
unfoldable pub ninja_files : Build → List PutFile
ninja_files build = files_of_build (surroundings_of build) (items_of_build build.loaded) build.loaded.generated

-- a file that an execution has written
abbrev pub written_file : Written → PutFile
written_file w = (w.path, w.bytes)

-- files with those that an execution has written: of several of one path the last one counts
abbrev pub with_written : List PutFile → FilesWritten → List PutFile
with_written files w = with_names (map written_file w.files) files

-- those that a build has written, in the order of their paths
unfoldable pub written_files : List FilesWritten → List PutFile
written_files written = fold with_written [] written

-- the build arguments that the command line gives, if it does, in the file that keeps them
abbrev pub arguments_file : List ℕ → Option (List ℕ) → List PutFile
arguments_file directory None = []
arguments_file directory (Some text) = (arguments_path directory, line text) ∷ []

-- all of them: the Ninja files, those that it has written, and its build arguments
abbrev pub files_made : Request → Build → List PutFile
files_made request build = ninja_files build ++ (written_files build.loaded.written ++ arguments_file request.directory request.arguments)

-- in the order of their paths; those of one path in this order
unfoldable pub files_put : Request → Build → List PutFile
files_put request build = in_path_order (files_made request build)
