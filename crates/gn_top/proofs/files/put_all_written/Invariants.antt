use Rattle.std.proofs.Common.{◌≡◌, drop, map}
use Rattle.gn_values.specs.Tables.{with_names}
use Rattle.gn_top.specs.Files.{written_file}
use Rattle.gn_top.proofs.files.put_all_written.Given as goal

abbrev pub invariant-loop-file : goal.invariant-loop-file
invariant-loop-file l = with_names (map written_file (drop l.file-index l.files)) l.table.entries ≡ with_names (map written_file l.files) l.initial.table.entries
