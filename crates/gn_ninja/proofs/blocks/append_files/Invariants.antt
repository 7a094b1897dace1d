use Rattle.std.proofs.Common.{◌≡◌, ◌++◌, take, map}
use Rattle.std.specs.List.{flat_map}
use Rattle.gn_ninja.specs.Format.{line_text}
use Rattle.gn_writing.specs.Lines.{a_subninja}
use Rattle.gn_ninja.proofs.blocks.append_files.Given as goal

abbrev pub invariant-loop-path : goal.invariant-loop-path
invariant-loop-path l = l.text.items ≡ l.fn.text.items ++ flat_map line_text (map (λ p. a_subninja p) (take l.path-index l.paths))
