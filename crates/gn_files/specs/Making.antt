-- The files of targets and build.ninja, by what they are made of.
use Rattle.std.specs.Prelude.{ℕ, List, [], ◌++◌, Option, None, Some, map, codes}
use Rattle.std.specs.Borrow.{Bor}
use Rattle.gn_paths.specs.Directory.{obj_directory_of}
use Rattle.gn_outside.specs.States.{PutFile}
use Rattle.gn_writing.specs.declared.records.Written.{Written}
use Rattle.gn_writing.specs.Kinds.{target_blocks}
use Rattle.gn_ninja.specs.Claims.{Claimant, claimant, claims_of}
use Rattle.gn_ninja.specs.Format.{text_of_file}
use Rattle.gn_ninja.specs.Root.{Root, root_of as root_held, root_blocks}
use Rattle.gn_ninja.specs.Taken.{taken_by}
use Rattle.gn_out_files.specs.Files.{put_of}
use Rattle.gn_files.specs.declared.target_files.TargetFile.{TargetFile}
use Rattle.gn_files.specs.declared.target_files.Piece.{Piece}
use Rattle.gn_files.specs.declared.target_files.Piece.TheVariants as pieces
use Rattle.gn_files.specs.Files.{path_in, file}

-- the text of the file of a target, by what is written of it
abbrev pub text_of : Option (Bor Written) → List ℕ
text_of None = []
text_of (Some written) = text_of_file (target_blocks written.now)

abbrev pub file_of : TargetFile → PutFile
file_of f = file (path_in (obj_directory_of f.out.now f.target.now.dir) (f.target.now.name ++ codes ".ninja")) (text_of f.written)

-- build.ninja
abbrev pub root_made : (build : List ℕ) → Root → List Written → List Claimant → PutFile
root_made build root written claimants =
    file (path_in build (codes "build.ninja")) (text_of_file (root_blocks root (taken_by written) (claims_of claimants)))

-- the file of a piece
abbrev pub piece_of : Piece → PutFile
piece_of (pieces.Root r) = root_made r.build.now (root_held r.root.now) (map (λ w. w.now) r.written.now) (map claimant r.claimants.now)
piece_of (pieces.Made f) = put_of f.now
piece_of (pieces.Target f) = file_of f
