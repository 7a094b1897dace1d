use Rattle.std.proofs.Common.{◌≡◌, ◌++◌, take, map}
use Rattle.gn_files.specs.Making.{file_of, piece_of}
use Rattle.gn_files.proofs.pieces.add_targets.Given as goal

abbrev pub invariant-loop-file : goal.invariant-loop-file
invariant-loop-file l = map piece_of l.pieces.items ≡ map piece_of l.fn.pieces.items ++ map file_of (take l.file-index l.files)
