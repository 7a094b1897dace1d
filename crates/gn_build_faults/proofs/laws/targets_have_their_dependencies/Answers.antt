use Rattle.gn_build_faults.proofs.Faultless.{targets_closed, generated_in}
use Rattle.gn_build_faults.proofs.laws.targets_have_their_dependencies.Goals as goal

pub returns-clause-closed : goal.returns-clause-closed
returns-clause-closed c = targets_closed c.the_labels_of_items_are_enough.ensures c.reached_targets_are_closed.ensures.closed

pub returns-clause-generated : goal.returns-clause-generated
returns-clause-generated c = generated_in c.the_labels_of_items_are_enough.ensures c.reached_targets_are_closed.ensures.those
