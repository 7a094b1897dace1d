use Rattle.gn_builds.proofs.Causes.{units_have_faults, spoilers_are_unusable, links_are_unusable, wrong_is_cause, round_is_cause}
use Rattle.gn_builds.proofs.laws.links_lead_to_the_fault.Goals as goal

pub returns-clause-faults : goal.returns-clause-faults
returns-clause-faults c = units_have_faults

pub returns-clause-spoilers : goal.returns-clause-spoilers
returns-clause-spoilers c = spoilers_are_unusable

pub returns-clause-links : goal.returns-clause-links
returns-clause-links c = links_are_unusable

pub returns-clause-wrong : goal.returns-clause-wrong
returns-clause-wrong c = wrong_is_cause

pub returns-clause-round : goal.returns-clause-round
returns-clause-round c = round_is_cause
