use Rattle.std.proofs.Common.{◌≡◌, take, map}
use Rattle.std.specs.List.{fold, flat_map}
use Rattle.gn_text.specs.Names.{with_name}
use Rattle.gn_writing.specs.Kinds.{copied_outs}
use Rattle.gn_ninja.proofs.parts.add_copied.Given as goal

abbrev pub invariant-loop-file : goal.invariant-loop-file
invariant-loop-file l = (l.seen ≡ fold with_name l.fn.seen (flat_map copied_outs (take l.file-index l.files))) × (map (λ t. t.now) l.paths.items ≡ l.seen)
