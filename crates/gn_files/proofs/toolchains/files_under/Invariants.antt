use Rattle.std.proofs.Common.{◌≡◌, take}
use Rattle.gn_files.specs.Files.{files_under}
use Rattle.gn_files.specs.Known.{surroundings_in, known}
use Rattle.gn_files.proofs.toolchains.files_under.Given as goal

abbrev pub invariant-loop-target : goal.invariant-loop-target
invariant-loop-target l = l.files ≡ files_under (surroundings_in l.project) (known l.project) (take l.target-index l.project.targets.now) l.toolchain
