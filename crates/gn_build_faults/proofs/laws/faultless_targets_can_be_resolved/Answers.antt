use Rattle.gn_build_faults.proofs.Faultless.{faultless_end}
use Rattle.gn_build_faults.proofs.laws.faultless_targets_can_be_resolved.Goals as goal

pub returns : goal.returns
returns c = faultless_end c.the_labels_of_items_are_enough.ensures c.faultless_targets_reach_no_cycle.ensures
