use Rattle.std.proofs.Common.{◌≡◌, ◌++◌, drop}
use Rattle.std.specs.List.{flat_map}
use Rattle.gn_closure.specs.Reach.{label}
use Rattle.gn_closure.specs.Computed.{one_want}
use Rattle.gn_graph.specs.Facts.{rules_in}
use Rattle.gn_graph.specs.Needs.{home}
use Rattle.gn_graph.proofs.target_rules.wants.Given as goal

abbrev pub invariant-loop-needed : goal.invariant-loop-needed
invariant-loop-needed l =
    rules_in l.initial.rules.items ++ flat_map (one_want home l.file.default.now (label l.file.dir.now l.name l.file.toolchain.now)) l.labels
    ≡ rules_in l.rules.items ++ flat_map (one_want home l.file.default.now (label l.file.dir.now l.name l.file.toolchain.now)) (drop l.needed-index l.labels)
