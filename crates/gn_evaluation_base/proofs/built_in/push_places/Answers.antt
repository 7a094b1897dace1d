use Rattle.std.proofs.Common.{◌∙◌}
use Rattle.gn_evaluation_base.proofs.built_in.push_places.Goals as goal

pub returns : goal.returns
returns c later = c.in_ok-push_open.ensures later ∙ c.in_ok-push_roots.ensures _ ∙ c.in_ok-push_toolchains.ensures _
