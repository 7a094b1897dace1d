use Rattle.std.proofs.Common.{◌≡◌, ◌++◌, map}
use Rattle.gn_out_files.specs.Files.{put_of}
use Rattle.gn_top.proofs.files.append_table.Given as goal

abbrev pub invariant-loop-path : goal.invariant-loop-path
invariant-loop-path l = map put_of l.files.items ++ l.path-iterator ≡ map put_of l.fn.files.items ++ l.fn.table.entries
