use Rattle.std.proofs.Common.{◌∙◌}
use Rattle.gn_evaluation_base.proofs.built_in.push_roots.Goals as goal

pub returns : goal.returns
returns c later = c.in_ok-push_root_gen.ensures later ∙ c.in_ok-push_path-2.ensures _ ∙ c.in_ok-push_path.ensures _
