use Rattle.std.proofs.Common.{◌≡◌, ◌++◌, map, drop}
use Rattle.gn_closure.specs.Computed.{tool_rules}
use Rattle.gn_graph.specs.Facts.{rules_in}
use Rattle.gn_graph.specs.Needs.{home, toolchain_of}
use Rattle.gn_graph.proofs.unit_rules.tool_rules.Given as goal

abbrev pub invariant-loop-toolchain : goal.invariant-loop-toolchain
invariant-loop-toolchain l =
    rules_in l.initial.rules.items ++ tool_rules home l.file.default.now l.file.dir.now l.file.toolchain.now (map toolchain_of l.toolchains)
    ≡ rules_in l.rules.items ++ tool_rules home l.file.default.now l.file.dir.now l.file.toolchain.now (map toolchain_of (drop l.toolchain-index l.toolchains))
