use Rattle.std.proofs.Common.{◌≡◌, ◌++◌, take, map}
use Rattle.gn_out_files.specs.Files.{put_of}
use Rattle.gn_files.specs.Making.{piece_of}
use Rattle.gn_files.proofs.pieces.add_made.Given as goal

abbrev pub invariant-loop-file : goal.invariant-loop-file
invariant-loop-file l = map piece_of l.pieces.items ≡ map piece_of l.fn.pieces.items ++ map put_of (take l.file-index l.made)
