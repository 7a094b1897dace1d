use Rattle.std.proofs.Common.{◌≡◌, take, map}
use Rattle.gn_files.specs.Files.{seen, toolchain_path}
use Rattle.gn_files.specs.Known.{surroundings_in, known}
use Rattle.gn_files.proofs.root.toolchain_files.Given as goal

abbrev pub invariant-loop-toolchain : goal.invariant-loop-toolchain
invariant-loop-toolchain l = l.files ≡ map (λ toolchain. seen (surroundings_in l.project) (toolchain_path (surroundings_in l.project) (known l.project) toolchain)) (take l.toolchain-index l.toolchains)
