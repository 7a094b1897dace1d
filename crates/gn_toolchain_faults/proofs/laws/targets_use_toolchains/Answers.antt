use Rattle.gn_toolchain_faults.proofs.Uses.{targets_use_them}
use Rattle.gn_toolchain_faults.proofs.laws.targets_use_toolchains.Goals as goal

pub returns : goal.returns
returns c = targets_use_them
