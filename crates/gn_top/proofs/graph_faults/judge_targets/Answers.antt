use Rattle.std.proofs.Common.{List, sym, ap, ◌∙◌}
use Rattle.std.specs.Prelude.{option_map}
use Rattle.gn_basics.proofs.Results.{if_ok}
use Rattle.gn_labels.specs.declared.label.Label.{Label}
use Rattle.gn_build_faults.specs.Labels.{fault_of_labels}
use Rattle.gn_build_faults.specs.Reaching.{targets_of}
use Rattle.gn_build_faults.specs.Whole.{those_or}
use Rattle.gn_toolchains.specs.Frames.{surroundings}
use Rattle.gn_top.specs.GraphFaults.{label_fault}
use Rattle.gn_top.proofs.graph_faults.judge_targets.Goals as goal

pub returns-clause-fault : goal.returns-clause-fault
unfolding label_fault
returns-clause-fault g c =
    if_ok c.judge_generated.result
    (λ judged is. is ∙ (λ i. fault_of_labels (surroundings c.args.surroundings) (c.requires.items i) (targets_of (c.requires.default i) (c.requires.items i) (c.generated.ensures i))))
    c.judge_generated.ensures.fault

pub returns-clause-others : goal.returns-clause-others
returns-clause-others g c =
    if_ok c.judge_generated.result
    (λ judged is. sym (ap (λ (ts : List Label). those_or ts (option_map (λ targets. targets.items) judged.others)) c.generated.ensures) ∙ (is ∙ (λ i. targets_of (c.requires.default i) (c.requires.items i) (c.generated.ensures i))))
    c.judge_generated.ensures.others
