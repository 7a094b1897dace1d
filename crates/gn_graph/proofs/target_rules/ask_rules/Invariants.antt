use Rattle.std.proofs.Common.{◌≡◌, ◌∷◌, ◌++◌, [], drop}
use Rattle.std.specs.List.{flat_map}
use Rattle.gn_closure.specs.Reach.{label}
use Rattle.gn_closure.specs.Ground.{Asked}
use Rattle.gn_closure.specs.Computed.{rule_of, is_generated}
use Rattle.gn_graph.specs.Facts.{rules_in}
use Rattle.gn_graph.proofs.target_rules.ask_rules.Given as goal

abbrev pub invariant-loop-label : goal.invariant-loop-label
invariant-loop-label l =
    rules_in l.initial.rules.items ++ flat_map (λ x. rule_of (is_generated (label l.file.dir.now l.target.name l.file.toolchain.now) ∷ []) (Asked x) ∷ []) l.target.deps.items
    ≡ rules_in l.rules.items ++ flat_map (λ x. rule_of (is_generated (label l.file.dir.now l.target.name l.file.toolchain.now) ∷ []) (Asked x) ∷ []) (drop l.label-index l.target.deps.items)
