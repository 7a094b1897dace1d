use Rattle.std.proofs.Common.{◌≡◌, ◌++◌, map, drop}
use Rattle.std.specs.List.{flat_map}
use Rattle.gn_graph.specs.Needs.{toolchain_of}
use Rattle.gn_projects.specs.Needs.{toolchain_in}
use Rattle.gn_answers.proofs.needs.toolchains_among.Given as goal

abbrev pub invariant-loop-item : goal.invariant-loop-item
invariant-loop-item l = flat_map toolchain_in l.items ≡ map toolchain_of l.toolchains.items ++ flat_map toolchain_in (drop l.item-index l.items)
