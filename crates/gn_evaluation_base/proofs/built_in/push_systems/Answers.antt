use Rattle.std.proofs.Common.{◌∙◌}
use Rattle.gn_evaluation_base.proofs.built_in.push_systems.Goals as goal

pub returns : goal.returns
returns c later = c.in_ok-push_targeted.ensures later ∙ c.in_ok-push_host.ensures _
