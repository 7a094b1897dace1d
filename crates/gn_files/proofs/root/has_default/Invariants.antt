use Rattle.std.proofs.Common.{◌≡◌, take, false}
use Rattle.std.specs.List.{list_any}
use Rattle.gn_files.specs.Files.{is_default}
use Rattle.gn_files.proofs.root.has_default.Given as goal

abbrev pub invariant-loop-target : goal.invariant-loop-target
invariant-loop-target l = list_any (is_default l.default) (take l.target-index l.targets) ≡ false
