use Rattle.std.proofs.Common.{◌≡◌, [], take, map}
use Rattle.std.specs.List.{fold}
use Rattle.gn_files.specs.Files.{with_member}
use Rattle.gn_files.proofs.used.table_of.Given as goal

abbrev pub invariant-loop-target : goal.invariant-loop-target
invariant-loop-target l = l.table.entries ≡ fold with_member [] (map (λ t. t.toolchain) (take l.target-index l.targets))
