use Rattle.std.proofs.Common.{◌≡◌, ◌++◌, take, map}
use Rattle.gn_out_files.specs.Files.{put_of}
use Rattle.gn_files.specs.Files.{toolchain_out}
use Rattle.gn_files.specs.Known.{surroundings_in, known}
use Rattle.gn_files.proofs.toolchains.add_toolchains.Given as goal

abbrev pub invariant-loop-toolchain : goal.invariant-loop-toolchain
invariant-loop-toolchain l = map put_of l.out.items ≡ map put_of l.fn.out.items ++ map (toolchain_out (surroundings_in l.project) (known l.project) l.project.targets.now) (take l.toolchain-index l.toolchains)
