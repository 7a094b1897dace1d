use Rattle.std.proofs.Common.{◌≡◌, ◌++◌, map, drop}
use Rattle.std.specs.List.{flat_map}
use Rattle.gn_closure.specs.Computed.{target_rules}
use Rattle.gn_graph.specs.Facts.{rules_in}
use Rattle.gn_graph.specs.Needs.{home, target_of}
use Rattle.gn_graph.proofs.target_rules.targets_rules.Given as goal

abbrev pub invariant-loop-target : goal.invariant-loop-target
invariant-loop-target l =
    rules_in l.initial.rules.items ++ flat_map (target_rules home l.file.default.now l.file.dir.now l.file.toolchain.now) (map target_of l.targets)
    ≡ rules_in l.rules.items ++ flat_map (target_rules home l.file.default.now l.file.dir.now l.file.toolchain.now) (map target_of (drop l.target-index l.targets))
