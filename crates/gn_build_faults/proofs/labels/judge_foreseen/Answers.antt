use Rattle.std.proofs.Common.{List, ap, ◌∙◌}
use Rattle.gn_labels.specs.declared.label.Label.{Label}
use Rattle.gn_toolchains.specs.Frames.{surroundings as given}
use Rattle.gn_build_faults.specs.Labels.{fault_of_labels}
use Rattle.gn_build_faults.proofs.labels.judge_foreseen.Goals as goal

pub returns-in-Ok-clause-fault : goal.returns-in-Ok-clause-fault
returns-in-Ok-clause-fault g c =
    (rw c.in-Ok.is at c.fault_of_settled.ensures)
    ∙ ap (λ (ts : List Label). fault_of_labels (given c.args.surroundings) c.args.items.now ts) (c.those_or-targets.ensures ∙ c.in_ok-others.ensures)
