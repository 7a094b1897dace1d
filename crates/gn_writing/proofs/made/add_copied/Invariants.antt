use Rattle.std.proofs.Common.{◌≡◌, ◌++◌, take, map}
use Rattle.std.specs.List.{flat_map}
use Rattle.gn_writing.specs.Kinds.{copied_outs}
use Rattle.gn_writing.proofs.made.add_copied.Given as goal

abbrev pub invariant-loop-file : goal.invariant-loop-file
invariant-loop-file l = map (λ t. t.now) l.outs.items ≡ map (λ t. t.now) l.fn.outs.items ++ flat_map copied_outs (take l.file-index l.files)
