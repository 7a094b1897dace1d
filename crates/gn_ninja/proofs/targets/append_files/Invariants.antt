use Rattle.std.proofs.Common.{◌≡◌, take, map}
use Rattle.gn_writing.specs.Kinds.{copied_block}
use Rattle.gn_ninja.specs.Format.{with_blocks}
use Rattle.gn_ninja.proofs.targets.append_files.Given as goal

abbrev pub invariant-loop-file : goal.invariant-loop-file
invariant-loop-file l = l.text.items ≡ with_blocks l.fn.text.items (map (copied_block l.copy) (take l.file-index l.copy.files))
