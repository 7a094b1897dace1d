use Rattle.std.proofs.Common.{◌≡◌, ◌++◌, drop}
use Rattle.std.specs.List.{filter_map}
use Rattle.gn_toolchains.specs.Toolchains.{lent, toolchain_at}
use Rattle.gn_toolchain_faults.proofs.used.toolchains_at.Given as goal

abbrev pub invariant-loop-text : goal.invariant-loop-text
invariant-loop-text l =
    filter_map (λ text. toolchain_at l.default text (lent l.items)) l.texts
    ≡ lent l.found.items ++ filter_map (λ text. toolchain_at l.default text (lent l.items)) (drop l.text-index l.texts)
