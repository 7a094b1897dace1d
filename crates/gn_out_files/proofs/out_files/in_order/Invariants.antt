use Rattle.std.proofs.Common.{◌≡◌, length, map, vec_len}
use Rattle.gn_out_files.specs.Files.{put_of, with_files}
use Rattle.gn_out_files.specs.Keys.{files_of, AreFrom}
use Rattle.gn_out_files.proofs.out_files.in_order.Given as goal

abbrev pub invariant-loop-file : goal.invariant-loop-file
invariant-loop-file l = record {
  order : with_files (map put_of l.files.items) (files_of l.ordered.entries) ≡ with_files (map put_of l.initial.files.items) (files_of l.initial.ordered.entries);
  numbers : AreFrom (length l.files.items) l.ordered.entries;
}

abbrev pub decreases-loop-file : goal.decreases-loop-file
decreases-loop-file l = vec_len l.files
