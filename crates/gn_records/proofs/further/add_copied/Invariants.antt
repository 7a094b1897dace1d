use Rattle.std.proofs.Common.{◌≡◌, ◌++◌, take}
use Rattle.std.specs.List.{flat_map}
use Rattle.gn_writing.specs.Kinds.{copied_outs}
use Rattle.gn_records.proofs.further.add_copied.Given as goal

abbrev pub invariant-loop-file : goal.invariant-loop-file
invariant-loop-file l = l.outs ≡ l.fn.outs ++ flat_map copied_outs (take l.file-index l.files)
