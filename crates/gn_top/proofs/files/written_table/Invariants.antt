use Rattle.std.proofs.Common.{◌≡◌, [], take}
use Rattle.std.specs.List.{fold}
use Rattle.gn_built.specs.Files.{files_of}
use Rattle.gn_top.specs.Files.{with_written}
use Rattle.gn_top.proofs.files.written_table.Given as goal

abbrev pub invariant-loop-execution : goal.invariant-loop-execution
invariant-loop-execution l = l.table.entries ≡ fold with_written [] (files_of (take l.execution-index l.written))
