use Rattle.std.proofs.Common.{◌≡◌, drop}
use Rattle.std.specs.List.{fold, filter_map}
use Rattle.gn_toolchains.specs.Toolchains.{lent}
use Rattle.gn_toolchains.specs.Frames.{surroundings}
use Rattle.gn_toolchain_faults.specs.Least.{earlier}
use Rattle.gn_toolchain_faults.specs.Faults.{told_of, label_of, fault_among}
use Rattle.gn_toolchain_faults.proofs.fault.fault_among.Given as goal

abbrev pub invariant-loop-item : goal.invariant-loop-item
invariant-loop-item l =
    fold (earlier label_of l.toolchains.surroundings.default.now) l.best
    (filter_map (told_of (surroundings l.toolchains.surroundings) l.toolchains.items.now (lent l.toolchains.used.items)) (lent (drop l.item-index l.toolchains.used.items)))
    ≡ fault_among (surroundings l.toolchains.surroundings) l.toolchains.items.now (lent l.toolchains.used.items)
