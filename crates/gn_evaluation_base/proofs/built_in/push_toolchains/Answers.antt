use Rattle.std.proofs.Common.{◌∙◌}
use Rattle.gn_evaluation_base.proofs.built_in.push_toolchains.Goals as goal

pub returns : goal.returns
returns c later = c.in_ok-push-2.ensures later ∙ c.in_ok-push.ensures _ ∙ cc
