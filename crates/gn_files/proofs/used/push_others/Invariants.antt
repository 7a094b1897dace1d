use Rattle.std.proofs.Common.{◌≡◌, ◌++◌, take, filter}
use Rattle.gn_files.specs.Files.{is_other}
use Rattle.gn_files.proofs.used.push_others.Given as goal

abbrev pub invariant-loop-toolchain : goal.invariant-loop-toolchain
invariant-loop-toolchain l = l.texts ≡ l.fn.texts ++ filter (is_other l.default) (take l.toolchain-index l.toolchains)
